-- What tests the same is the same, and the other way round.
-- Case by case; lists from their heads.
use Rattle.std.proofs.Common.{ℕ, ◌≡◌, refl, sym, ◌≢◌, Bool, true, false, List, [], ◌∷◌, eqb, eqb-true, eq-eqb}
use mathlib.Core.Bool.{false≢true}
use Rattle.model_base.specs.Same.{same_bool, same_numbers}
use Rattle.model_base.proofs.Tests.{test, both, to_both}

pub same_bool_lem : (a b : Bool) → same_bool a b ≡ true → a ≡ b
unfolding same_bool
same_bool_lem true true h = refl
same_bool_lem true false h = sym h
same_bool_lem false true h = h
same_bool_lem false false h = refl

-- ---- lists of numbers

pub same-numbers : (xs ys : List ℕ) → same_numbers xs ys ≡ true → xs ≡ ys
unfolding same_numbers
same-numbers [] [] e = refl
same-numbers [] (y ∷ ys) e = absurd (false≢true e)
same-numbers (x ∷ xs) [] e = absurd (false≢true e)
same-numbers (x ∷ xs) (y ∷ ys) e = let h = both (eqb x y) _ e in rw (eqb-true x y h.0, same-numbers xs ys h.1)

pub numbers-itself : (xs : List ℕ) → same_numbers xs xs ≡ true
unfolding same_numbers
numbers-itself [] = refl
numbers-itself (x ∷ xs) = to_both _ _ (eq-eqb x x refl) (numbers-itself xs)

pub numbers-same : (xs ys : List ℕ) → xs ≡ ys → same_numbers xs ys ≡ true
numbers-same xs ys e = rw e (numbers-itself ys)

pub other-numbers : (xs ys : List ℕ) → xs ≢ ys → same_numbers xs ys ≡ false
other-numbers xs ys n = test (same_numbers xs ys) (λ e. absurd (n (same-numbers xs ys e))) (λ e. e)
