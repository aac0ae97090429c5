-- The claims about one image: it reads back, it is the image of one network, and nothing else is read.
-- All from the law that parsing an image gives the network back: the reader parses, tests the shape, writes again and compares.
use Rattle.std.proofs.Common.{ℕ, ◌≡◌, sym, ap, ◌∙◌, true, List, arith}
use Rattle.model_base.specs.Same.{same_numbers}
use Rattle.model_base.proofs.Tests.{test, both, to_both}
use Rattle.model_base.proofs.Same.{numbers-itself, same-numbers}
use Rattle.model_network.specs.Network.{Network, empty_network}
use Rattle.model_network.specs.Shape.{in_shape}
use Rattle.model_image.specs.Image.{image}
use Rattle.model_image.specs.Reading.{parse, bad_image, is_image, load_first}
use Rattle.model_image.specs.Plain.{Plain}
use Rattle.model_image.specs.Claims.{ReadsFirst, OneFirst, ReadsOnlyFirst}
use Rattle.model_image.proofs.Parsing.{parts}
use Rattle.model_image.proofs.Plainness.{parse_plain}
pub use Rattle.model_image.proofs.Lengths.{image-length}
pub use Rattle.model_image.proofs.Parsing.{parse-image}

pub is-image : (w : Network) → Plain w → in_shape w ≡ true → is_image (image w) ≡ true
unfolding is_image
is-image w plain e = rw (parse-image w plain e) (to_both (in_shape w) _ e (numbers-itself (image w)))

pub reads_first : ReadsFirst
unfolding load_first
reads_first w plain e =
    rw (is-image w plain e, load_first) (ap (λ (v : Network). record { number = 0; network = v }) (parse-image w plain e))

pub one-first : OneFirst
one-first w v plain plain' e e' same = sym (parse-image w plain e) ∙ ap parse same ∙ parse-image v plain' e'

-- ---- bytes that are read

module _ (s : List ℕ) where
  -- what an accepted image gives
  pub given : is_image s ≡ true → (image (parse s) ≡ s) × (in_shape (parse s) ≡ true) × Plain (parse s)
  unfolding is_image
  given e =
      let b = both (in_shape (parse s)) (same_numbers (image (parse s)) s) e in
      let same = same-numbers (image (parse s)) s b.1 in
      (same, b.0, parse_plain s same (parts (parse s) b.0))

  accepted : (load_first s).number ≡ 0 → (image (load_first s).network ≡ s) × (in_shape (load_first s).network ≡ true) × Plain (load_first s).network
  unfolding load_first bad_image
  accepted z =
      test (is_image s)
      (λ e. rw (e, load_first) (given e))
      (λ e. absurd (let w : ◌≡◌ {A = ℕ} 13 0 = rw (e, load_first) at z in omega arith))

  otherwise : ((w : Network) → Plain w → in_shape w ≡ true → image w ≡ s → ⊥) → load_first s ≡ record { number = bad_image; network = empty_network }
  unfolding load_first
  otherwise none =
      test (is_image s)
      (λ e. let g = given e in absurd (none (parse s) g.2 g.1 g.0))
      (λ e. rw (e, load_first))

pub reads-only-first : ReadsOnlyFirst
reads-only-first s = record { taken = accepted s; refused = otherwise s }
