-- A word against the letters of an option.
use Rattle.std.proofs.Common.{◌≡◌, refl, List, [], ◌∷◌, ℕ, arith, eqb}
use mathlib.Core.Bool.{and-true, and-false}
use Rattle.std.specs.List.{starts_with}
use Rattle.abt_image_reader.proofs.Comparing.{pointwise_same}
use Rattle.abt_board_text.specs.Options.{is_option}

pub two-dashes : (word : List ℕ) → starts_with eqb word (45 ∷ 45 ∷ []) ≡ is_option word
unfolding is_option
two-dashes [] = refl
two-dashes (x ∷ []) = rw (and-false, and-false)
two-dashes (x ∷ y ∷ zs) =
    let e : eqb 45 x ≡ eqb x 45 = grind arith in
    let f : eqb 45 y ≡ eqb y 45 = grind arith in
    rw (and-true, e, f)

pub ruleset dashes = (two-dashes)

-- letter by letter
pub ruleset letters = (pointwise_same)
