-- Tests whether two are the same: truth values, lists of numbers, what a writer answers.
use Rattle.std.specs.Prelude.{ℕ, Bool, true, false, ◌&&◌, List, [], ◌∷◌, eqb}
use Rattle.model_base.specs.Lent.{Written}

unfoldable pub same_bool : Bool → Bool → Bool
same_bool true b = b
same_bool false true = false
same_bool false false = true

unfoldable pub same_numbers : List ℕ → List ℕ → Bool
same_numbers [] [] = true
same_numbers [] (y ∷ ys) = false
same_numbers (x ∷ xs) [] = false
same_numbers (x ∷ xs) (y ∷ ys) = eqb x y && same_numbers xs ys

unfoldable pub same_written : Written → Written → Bool
same_written a b = eqb a.number b.number && eqb a.length b.length && same_numbers a.buffer b.buffer
