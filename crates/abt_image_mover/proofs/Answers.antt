-- What the reader, the writer and the mover answer, test by test as the code has them, is what the definitions do.
-- Bytes in the second form are read by their first form, made into the second again and compared.
use borrow.Author.Tests.{lt-leb}
use Rattle.model_base.specs.Same.{same_numbers}
use Rattle.model_base.specs.Lent.{Written as Written', short_buffer, untouched, put}
use Rattle.model_base.proofs.Tests.{test, to_both}
use Rattle.model_network.specs.Network.{Network, empty_network}
use Rattle.model_network.specs.Shape.{in_shape}
use Rattle.model_image.specs.Image.{image}
use Rattle.model_image.specs.Reading.{Loaded, bad_image, is_image, parse, load_first}
use Rattle.model_image_forms.specs.Forms.{First, Second, second_form, small, large, image_in, form_of}
use Rattle.model_image_forms.specs.Reading.{is_small, load_second, load_as, load}
use Rattle.model_image_forms.specs.Writing.{store}
use Rattle.model_image_forms.specs.Moving.{moved, move}
use Rattle.model_image_forms.proofs.Theorems.{moved-from-first, moved-from-second}
use Rattle.support_buffer.specs.Abstract.{over, written_of}
use Rattle.support_buffer.proofs.Within.{Within, put-within, untouched-within}
use Rattle.std.proofs.Common.{Ok, Err, ℕ, ◌+◌, ◌≤◌, ◌<◌, ◌≡◌, sym, ap, ◌∙◌, ◌≢◌, true, false, List, ◌++◌, zero-add, arith, eqb, length, get_or, take, drop, eq-eqb, ne_eqb, le-leb}
use Rattle.support_rejection.specs.declared.Rejection.{Rejection}
use Rattle.support_rejection.specs.declared.Rejection.TheVariants.{BadImage}
use Rattle.support_rejection.specs.Rejections.{rejection_number}
use Rattle.support_rejection.proofs.Numbers.{refusal-some}
use Rattle.abt_image_writer.proofs.Stored.{stores-broken}
use Rattle.abt_image_reader.proofs.Written.{not_written}
use Rattle.abt_record.specs.declared.Network.{Network as Record}
use Rattle.abt_image_reader.specs.Loaded.{loaded_of}
use Rattle.abt_image_mover.specs.Whole.{Whole}
use Rattle.abt_image_mover.proofs.Images.{small-whole}

-- ---- reading

-- what is read has number 0, and a refusal another
module _ {l : Loaded} where
  pub read_number : (r : Record) → loaded_of (Ok r) ≡ l → l.number ≡ 0
  unfolding loaded_of
  read_number r e = ap (λ (l : Loaded). l.number) (sym e)

  pub rejected_number : (e : Rejection) → loaded_of (Err e) ≡ l → l.number ≢ 0
  unfolding loaded_of
  rejected_number e p z = refusal-some e (ap (λ (l : Loaded). l.number) p ∙ z)

abbrev pub rejection : Loaded
rejection = record { number = bad_image; network = empty_network }

module _ (s : List ℕ) where
  pub as_first : eqb (get_or s 0 0) second_form ≡ false → load s ≡ load_first s
  unfolding load load_as form_of
  as_first e = let f : form_of s ≡ First = rw (e, form_of) in rw f

  pub as-second : eqb (get_or s 0 0) second_form ≡ true → load s ≡ load_second s
  unfolding load load_as form_of
  as-second e = let f : form_of s ≡ Second = rw (e, form_of) in rw f

  -- what is refused is refused with 13
  second-bad : (load_second s).number ≢ 0 → (load_second s).number ≡ 13
  unfolding load_second bad_image
  second-bad n = test (is_small s) (λ t. absurd (n (rw (t, load_second)))) (λ t. rw (t, load_second))

  first-bad : (load_first s).number ≢ 0 → (load_first s).number ≡ 13
  unfolding load_first bad_image
  first-bad n = test (is_image s) (λ t. absurd (n (rw (t, load_first)))) (λ t. rw (t, load_first))

  pub refused-is-bad : (load s).number ≢ 0 → (load s).number ≡ 13
  refused-is-bad n =
      test (eqb (get_or s 0 0) second_form)
      (λ e. rw (as-second e) (second-bad (λ z. n (ap (λ (l : Loaded). l.number) (as-second e) ∙ z))))
      (λ e. rw (as_first e) (first-bad (λ z. n (ap (λ (l : Loaded). l.number) (as_first e) ∙ z))))

  not-small : is_small s ≡ false → load_second s ≡ rejection
  unfolding load_second
  not-small e = rw (e, load_second)

  pub not-whole : (Whole 10 s → ⊥) → load_second s ≡ rejection
  not-whole n = test (is_small s) (λ e. absurd (n (small-whole s e))) not-small

  -- t is its first form
  module _ (t : List ℕ) (is : t ≡ large s) where
    -- that is no image
    pub first-refused : (load_first t).number ≢ 0 → load_second s ≡ load_first t
    unfolding load_first is_small
    first-refused n =
        test (is_image t)
        (λ e. absurd (n (rw (e, load_first))))
        (λ e. let f : is_image (large s) ≡ false = rw (← is) e in not-small (rw f) ∙ rw (e, load_first))

    -- its second form is other bytes
    pub not-again : same_numbers (small t) s ≡ false → load_second s ≡ rejection
    unfolding is_small
    not-again f =
        not-small (test (is_image (large s)) (λ e. rw (e, ← is) f) (λ e. rw e))

    pub second-taken : (load_first t).number ≡ 0 → same_numbers (small t) s ≡ true → load_second s ≡ load_first t
    unfolding load_first load_second is_small bad_image
    second-taken z f =
        test (is_image t)
        (λ e.
        let g : is_small s ≡ true = rw (← is) (to_both (is_image t) _ e f) in
        rw (g, load_second) (rw (e, load_first) (ap (λ (l : List ℕ). record { number = 0; network = parse l }) (sym is))))
        (λ e. absurd (let q : ◌≡◌ {A = ℕ} 13 0 = rw (e, load_first) at z in omega arith))

-- ---- writing

module _ (bytes buffer : List ℕ) where
  pub put-short : length buffer < length bytes → put bytes buffer ≡ untouched 12 buffer
  unfolding put short_buffer
  put-short h = rw (lt-leb (length bytes) (length buffer) h, put)

  pub put-copied : (new : List ℕ) → length bytes ≤ length buffer → new ≡ take 0 buffer ++ bytes ++ drop (0 + length bytes) buffer
      → put bytes buffer ≡ record { number = 0; length = length bytes; buffer = new }
  unfolding put
  put-copied new h e = rw (le-leb (length bytes) (length buffer) h, put, e) (rw zero-add)

  pub put_all : (new : List ℕ) → length bytes ≤ length buffer → new ≡ over 0 bytes buffer → put bytes buffer ≡ record { number = 0; length = length bytes; buffer = new }
  put_all new h p = put-copied new h p

-- an image in the second form, of a network in shape
pub stores-small : (w : Network) (buffer : List ℕ) → in_shape w ≡ true → store Second w buffer ≡ put (small (image w)) buffer
unfolding store image_in
stores-small w buffer e = rw (e, store)

-- what is not written into a buffer with room for every image is out of shape
pub stores-refused : (w : Network) (first new buffer : List ℕ) (e : Rejection) → length first ≡ 19744 → written_of (Err e) new ≡ store First w first
    → written_of (Err e) buffer ≡ store Second w buffer
unfolding written_of untouched
stores-refused w first new buffer e long p =
    let broken = not_written w first new long e p in
    let n : rejection_number e ≡ 5 = ap (λ (x : Written'). x.number) (p ∙ stores-broken First w first broken) in
    ap (λ (n : ℕ). untouched n buffer) n ∙ sym (stores-broken Second w buffer broken)

-- ---- moving

module _ (s buffer : List ℕ) where
  pub moves-none : (load s).number ≢ 0 → move s buffer ≡ untouched 13 buffer
  unfolding move bad_image
  moves-none n = rw (ne_eqb (load s).number 0 n, move)

  moves : (load s).number ≡ 0 → move s buffer ≡ put (moved s) buffer
  unfolding move
  moves z = rw (eq-eqb (load s).number 0 z, move)

  pub moves-first : eqb (get_or s 0 0) second_form ≡ false → (load_first s).number ≡ 0 → move s buffer ≡ put (small s) buffer
  unfolding form_of
  moves-first e z =
      let n = ap (λ (x : Loaded). x.number) (as_first s e) ∙ z in
      moves n ∙ ap (λ (l : List ℕ). put l buffer) (moved-from-first s (rw (e, form_of)) n)

  pub moves-second : eqb (get_or s 0 0) second_form ≡ true → (load_second s).number ≡ 0 → move s buffer ≡ put (large s) buffer
  unfolding form_of
  moves-second e z =
      let n = ap (λ (x : Loaded). x.number) (as-second s e) ∙ z in
      moves n ∙ ap (λ (l : List ℕ). put l buffer) (moved-from-second s (rw (e, form_of)) n)

  pub move-within : Within (move s buffer)
  unfolding move
  move-within =
      test (eqb (load s).number 0)
      (λ t. rw (t, move) (put-within (moved s) buffer))
      (λ t. rw (t, move) (untouched-within bad_image buffer))

  -- a refusal to read is one to move
  pub moves-refused : (e : Rejection) → loaded_of (Err e) ≡ load s → move s buffer ≡ written_of (Err e) buffer
  unfolding loaded_of written_of bad_image
  moves-refused e p =
      let n : rejection_number e ≡ (load s).number = ap (λ (l : Loaded). l.number) p in
      let bad : rejection_number e ≡ 13 = n ∙ refused-is-bad s (rejected_number e p) in
      moves-none (rejected_number e p) ∙ ap (λ (n : ℕ). untouched n buffer) (sym bad)

  pub moves-unwhole : eqb (get_or s 0 0) second_form ≡ true → (Whole 10 s → ⊥) → move s buffer ≡ written_of (Err BadImage) buffer
  unfolding loaded_of bad_image
  moves-unwhole e n = moves-refused BadImage (sym (as-second s e ∙ not-whole s n))
