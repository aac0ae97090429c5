-- One turn of a loop: what is left of a test on each of 1 to m, and of a list that is filled from the front.
use Rattle.std.proofs.Common.{◌≡◌, refl, Bool, true, false, List, ℕ, zero, suc, ◌+◌, ◌-◌, ◌≤◌, ◌<◌, add-one, arith, length, get_or, take, set, take-suc, take-suc-set}
use Rattle.model_base.specs.Finite.{all_to}

-- ---- each of 1 to m, tested from m down

pub all_to-none : (m : ℕ) (p : ℕ → Bool) → m ≤ 0 → all_to m p ≡ true
unfolding all_to
all_to-none zero p h = refl
all_to-none (suc m) p h = absurd (omega arith)

pub all_to-fails : (m : ℕ) (p : ℕ → Bool) → 0 < m → p m ≡ false → all_to m p ≡ false
unfolding all_to
all_to-fails zero p l h = absurd (omega arith)
all_to-fails (suc m) p l h = rw h

pub all_to-goes : (m : ℕ) (p : ℕ → Bool) → 0 < m → p m ≡ true → all_to m p ≡ all_to (m - 1) p
unfolding all_to
all_to-goes zero p l h = absurd (omega arith)
all_to-goes (suc m) p l h = let e : suc m - 1 ≡ m = omega arith in rw (h, e)

-- ---- a list filled from the front

pub filled : (d t : List ℕ) (i a : ℕ) → i < length d → i < length t → a ≡ get_or t i 0 → take i d ≡ take i t
    → take (i + 1) (set d i a) ≡ take (i + 1) t
filled d t i a h k e same = rw (add-one i, take-suc-set d i a h, take-suc t i 0 k, e, same)
