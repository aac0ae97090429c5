-- The place of a ban in the table: the word's index in closed form, and that it is one of the 66.
-- 0 + 1 + .. + m is m (m + 1) / 2, by induction.
use Rattle.std.proofs.Common.{◌≡◌, ℕ, zero, suc, ◌+◌, ◌-◌, ◌*◌, ◌/◌, ◌≤◌, ◌<◌, mul-le-mul, arith}
use Rattle.model_sheet.specs.Problem.{pairs_before, word_at}

twice-pairs : (m : ℕ) → pairs_before (suc m) * 2 ≡ suc m * m
unfolding pairs_before
twice-pairs zero = omega arith
twice-pairs (suc m) = omega (arith, twice-pairs m)

word-from : (i m : ℕ) → suc m * m / 2 + (i - 1) ≡ word_at i (suc (suc m))
unfolding word_at
word-from i m = omega (arith, twice-pairs m)

pub word-index : (i j : ℕ) → 1 ≤ i → i < j → (j - 1) * (j - 2) / 2 + (i - 1) ≡ word_at i j
word-index i zero l h = absurd (omega arith)
word-index i (suc zero) l h = absurd (omega arith)
word-index i (suc (suc m)) l h =
    let one : suc (suc m) - 1 ≡ suc m = omega arith in
    let two : suc (suc m) - 2 ≡ m = omega arith in
    rw (one, two) (word-from i m)

pub products : (j : ℕ) → j ≤ 12 → (j - 1) * (j - 2) ≤ 110
products j h = mul-le-mul {n₂ = 11} {m₂ = 10} (omega arith) (omega arith)
