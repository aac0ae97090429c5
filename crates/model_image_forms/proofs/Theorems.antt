-- The claims about images of either form.
-- From the first form's: an image's first byte says its form, and the second form of an image is made into the first and back.
use Rattle.std.proofs.Common.{ℕ, ◌≤◌, ◌≡◌, refl, sym, ap, ap₂, ◌∙◌, true, List, arith, length, eqb, eqb-true, eq-eqb}
use Rattle.model_base.proofs.Same.{numbers-itself}
use Rattle.model_base.specs.Lent.{short_buffer, untouched, put}
use Rattle.model_base.proofs.Tests.{test, to_both}
use Rattle.model_network.specs.Network.{Network, empty_network}
use Rattle.model_network.specs.Shape.{in_shape}
use Rattle.model_image.specs.Image.{first_form, header_bytes, image}
use Rattle.model_image.specs.Reading.{Loaded, bad_image, parse}
use Rattle.model_image.specs.Plain.{Plain}
use Rattle.model_image.proofs.Lengths.{total-waiting, image-length as first-length}
use Rattle.model_image.proofs.Theorems.{is-image, parse-image, reads_first, reads-only-first}
use Rattle.model_image_forms.specs.Forms.{Form, First, Second, second_form, small, large, image_in, form_of, other_form}
use Rattle.model_image_forms.specs.Reading.{is_small, load_second, load_as, load}
use Rattle.model_image_forms.specs.Moving.{moved, move}
use Rattle.model_image_forms.specs.Claims.{ReadsBack, OneRail, ReadsOnlyImages, message_width, ImageLength, MovesBack, bytes_of, MovesThrough}
use Rattle.model_image_forms.proofs.Forms.{small-first, small-length, large-small}
use Rattle.model_image_forms.proofs.Bounds.{small-given}
use Rattle.model_image_forms.proofs.Buffers.{Puts, too_short, written, puts}
pub use Rattle.model_image_forms.proofs.Places.{laid-back}

-- ---- reading an image

form-of : (form : Form) (w : Network) → form_of (image_in form w) ≡ form
unfolding form_of image_in image header_bytes first_form second_form
form-of First w = refl
form-of Second w = rw (small-first w, form_of)

is-small : (w : Network) → Plain w → in_shape w ≡ true → is_small (small (image w)) ≡ true
unfolding is_small
is-small w plain e = rw (large-small w plain e) (to_both _ _ (is-image w plain e) (numbers-itself (small (image w))))

read_as_lem : (form : Form) (w : Network) → Plain w → in_shape w ≡ true → load_as form (image_in form w) ≡ record { number = 0; network = w }
unfolding load_as load_second image_in
read_as_lem First w plain e = reads_first w plain e
read_as_lem Second w plain e =
    rw (is-small w plain e, load_second)
    (ap (λ (v : Network). record { number = 0; network = v }) (ap parse (large-small w plain e) ∙ parse-image w plain e))

pub reads-back : ReadsBack
unfolding load
reads-back form w plain e = rw (form-of form w) (read_as_lem form w plain e)

pub one-rail : OneRail
one-rail form form' w v plain plain' e e' same = (
  sym (form-of form w) ∙ ap form_of same ∙ form-of form' v,
  let r = sym (reads-back form w plain e) ∙ ap load same ∙ reads-back form' v plain' e' in ap (λ (x : Loaded). x.network) r,
)

-- ---- bytes that are read

module _ (s : List ℕ) where
  taken_as_lem : (form : Form) → (load_as form s).number ≡ 0
      → (image_in form (load_as form s).network ≡ s) × (in_shape (load_as form s).network ≡ true) × Plain (load_as form s).network
  unfolding load_as load_second image_in bad_image
  taken_as_lem First z = (reads-only-first s).taken z
  taken_as_lem Second z =
      test (is_small s)
      (λ e. rw (e, load_second) (small-given s e))
      (λ e. absurd (let w : ◌≡◌ {A = ℕ} 13 0 = rw (e, load_second) at z in omega arith))

  refused_as : (form : Form) → ((form : Form) (w : Network) → Plain w → in_shape w ≡ true → image_in form w ≡ s → ⊥)
      → load_as form s ≡ record { number = bad_image; network = empty_network }
  unfolding load_as load_second image_in
  refused_as First none = (reads-only-first s).refused (none First)
  refused_as Second none =
      test (is_small s)
      (λ e. let g = small-given s e in absurd (none Second (parse (large s)) g.2 g.1 g.0))
      (λ e. rw (e, load_second))

pub reads-only-images : ReadsOnlyImages
unfolding load
reads-only-images s = record { taken = taken_as_lem s (form_of s); refused = refused_as s (form_of s) }

pub image-length : ImageLength
unfolding image_in message_width
image-length First w plain = first-length w plain
image-length Second w plain = rw (← total-waiting w plain) (small-length w)

-- ---- moving

back-again : (form : Form) → other_form (other_form form) ≡ form
unfolding other_form
back-again First = refl
back-again Second = refl

moved-form : (s : List ℕ) → form_of (moved s) ≡ other_form (form_of s)
unfolding moved
moved-form s = form-of (other_form (form_of s)) (load s).network

-- what is moved is read
moved-read : (s : List ℕ) → (load s).number ≡ 0 → load (moved s) ≡ record { number = 0; network = (load s).network }
unfolding moved
moved-read s z = let t = (reads-only-images s).taken z in reads-back (other_form (form_of s)) (load s).network t.2 t.1

moved_twice : (s : List ℕ) → (load s).number ≡ 0 → moved (moved s) ≡ s
unfolding moved
moved_twice s z =
    ap₂ image_in (ap other_form (moved-form s) ∙ back-again (form_of s)) (ap (λ (x : Loaded). x.network) (moved-read s z))
    ∙ ((reads-only-images s).taken z).0

pub moves-back : MovesBack
moves-back s z = (ap (λ (x : Loaded). x.number) (moved-read s z), moved_twice s z)

-- from the first form by `small`, from the second by `large`

pub moved-from-first : (s : List ℕ) → form_of s ≡ First → (load s).number ≡ 0 → moved s ≡ small s
unfolding moved image_in other_form
moved-from-first s f z = let t = (reads-only-images s).taken z in rw f (ap small (rw f at t.0))

pub moved-from-second : (s : List ℕ) → form_of s ≡ Second → (load s).number ≡ 0 → moved s ≡ large s
unfolding moved image_in other_form
moved-from-second s f z =
    let t = (reads-only-images s).taken z in
    rw f (sym (large-small (load s).network t.2 t.1) ∙ ap large (rw f at t.0))

-- ---- through buffers

-- what the mover has written where it does not refuse
mover-wrote : (s buffer : List ℕ) → (move s buffer).number ≡ 0 → ((load s).number ≡ 0) × (bytes_of (move s buffer) ≡ moved s)
unfolding move untouched short_buffer bad_image
mover-wrote s buffer z =
    test (eqb (load s).number 0)
    (λ e. (eqb-true _ 0 e, rw (e, move) (go (puts (moved s) buffer) (rw (e, move) at z))))
    (λ e. absurd (let n : ◌≡◌ {A = ℕ} 13 0 = rw (e, move) at z in omega arith))
  where
    go : Puts (moved s) buffer → (put (moved s) buffer).number ≡ 0 → bytes_of (put (moved s) buffer) ≡ moved s
    go (too_short _ e) n = absurd (let q : ◌≡◌ {A = ℕ} 12 0 = sym e ∙ n in omega arith)
    go (written _ b) n = b

-- it refuses no image where there is room
mover-writes : (s buffer : List ℕ) → (load s).number ≡ 0 → length (moved s) ≤ length buffer → (move s buffer).number ≡ 0
unfolding move
mover-writes s buffer z room = rw (eq-eqb (load s).number 0 z, move) (go (puts (moved s) buffer))
  where
    go : Puts (moved s) buffer → (put (moved s) buffer).number ≡ 0
    go (too_short short _) = absurd (omega arith)
    go (written e _) = e

pub moves-through : MovesThrough
moves-through s there back z room =
    let (l, b) = mover-wrote s there z in
    let m = moves-back s l in
    let n = mover-writes (moved s) back m.0 (rw m.1 room) in
    rw b (n, (mover-wrote (moved s) back n).1 ∙ m.1)
