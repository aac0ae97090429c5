-- Slices are equal, as the library tests it, where the definitions have them as the same numbers.
use Rattle.std.proofs.Common.{ℕ, ◌≡◌, refl, List, [], ◌∷◌, eqb}
use lib.Pointwise.{pointwise}
use Rattle.model_base.specs.Same.{same_numbers}

pub pointwise_same : (a b : List ℕ) → pointwise eqb a b ≡ same_numbers a b
unfolding same_numbers
pointwise_same [] [] = refl
pointwise_same [] (y ∷ ys) = refl
pointwise_same (x ∷ xs) [] = refl
pointwise_same (x ∷ xs) (y ∷ ys) = rw (pointwise_same xs ys)
