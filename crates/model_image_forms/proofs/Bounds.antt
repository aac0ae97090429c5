-- What is known of bytes that are the second form of an image: the image that they are of, and so how long they are.
-- They are packed and laid again and compared, so that they are the second form of the image of what their first form gives.
use Rattle.std.proofs.Common.{ℕ, ◌+◌, ◌*◌, ◌≤◌, ◌≡◌, ap, subst, ◌∙◌, true, List, length, get_or}
use Rattle.model_base.specs.Same.{same_numbers}
use Rattle.model_base.proofs.Same.{same-numbers}
use Rattle.model_base.proofs.Tests.{both}
use Rattle.model_sheet.specs.Problem.{max_agents}
use Rattle.model_network.specs.Network.{Network}
use Rattle.model_network.specs.Shape.{in_shape}
use Rattle.model_image.specs.Image.{image, all_lines}
use Rattle.model_image.specs.Reading.{messages_start, is_image, parse}
use Rattle.model_image.specs.Plain.{Plain}
use Rattle.model_image.proofs.Lengths.{total}
use Rattle.model_image.proofs.Parsing.{parts, few-wait}
use Rattle.model_image.proofs.Theorems.{given}
use Rattle.model_image_forms.specs.Packing.{packed_length}
use Rattle.model_image_forms.specs.Forms.{small, large}
use Rattle.model_image_forms.specs.Reading.{is_small}
use Rattle.model_image_forms.proofs.Forms.{small_count, small-length}

-- bytes in the second form are that of the image of what they give
pub small-given : (s : List ℕ) → is_small s ≡ true
    → (small (image (parse (large s))) ≡ s) × (in_shape (parse (large s)) ≡ true) × Plain (parse (large s))
unfolding is_small
small-given s e =
    let b = both (is_image (large s)) (same_numbers (small (large s)) s) e in
    let g = given (large s) b.0 in
    (ap small g.0 ∙ same-numbers (small (large s)) s b.1, g.1, g.2)

-- at most twelve scanners, at most 1,056 messages of ten bytes, and nothing else
pub record SmallBounds (s : List ℕ) : Type 0 where
  pub few : get_or s 1 0 ≤ 12
  pub waiting : ℕ
  pub most : waiting ≤ 1056
  pub long : length s ≡ messages_start (get_or s 1 0) + packed_length * waiting

image-bounds : (w : Network) → Plain w → in_shape w ≡ true → SmallBounds (small (image w))
unfolding max_agents
image-bounds w plain e =
    let p = parts w e in
    record {
      few = rw (small_count w) p.problem.high;
      waiting = total (all_lines w);
      most = few-wait w plain p;
      long = rw (small_count w) (small-length w);
    }

pub small-bounds : (s : List ℕ) → is_small s ≡ true → SmallBounds s
small-bounds s e = let g = small-given s e in subst SmallBounds g.0 (image-bounds (parse (large s)) g.2 g.1)
