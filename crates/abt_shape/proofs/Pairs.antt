-- Where the ban words of an agent begin: 0 + 1 + .. + (m - 1), as half of a product.
use Rattle.std.proofs.Common.{ℕ, zero, suc, pred, ◌+◌, ◌*◌, ◌-◌, ◌/◌, ◌≤◌, ◌<◌, ◌≡◌, refl, arith, mul-le-mul_left}
use Rattle.model_sheet.specs.Problem.{pairs_before, word_at}

twice-before : (m : ℕ) → 2 * pairs_before m + m ≡ m * m
unfolding pairs_before
twice-before zero = refl
twice-before (suc m) = omega (arith, twice-before m)

pub words_are : (m : ℕ) → (m * m - m) / 2 ≡ pairs_before m
words_are m = omega (arith, twice-before m)

pub words-fit : (m : ℕ) → m ≤ 11 → pairs_before m + m ≤ 66
words-fit m h = omega (arith, twice-before m, mul-le-mul_left m h)

-- the word of one pair
pub word-place : (i j before : ℕ) → before ≡ pairs_before (pred j) → 1 ≤ i → i < j → before + j ≤ 67
    → (before + i - 1 ≡ word_at i j) × (before + i - 1 < 66)
unfolding word_at
word-place i j before e l h f = (rw (← e) (omega arith), omega arith)
