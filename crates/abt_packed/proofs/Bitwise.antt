-- Bits of `!` and of a run of ones; and whether one number has no bit that another lacks.
use Rattle.std.proofs.Common.{ℕ, pred, ◌-◌, ◌^◌, ◌≤◌, ◌<◌, ◌≡◌, refl, sym, ap, ◌∙◌, Bool, true, false, not, ◌&&◌, ◌||◌, div-one, lt_of_le_of_lt, arith, bit_and, eqb, leb, pow_pos}
use native.Mathlib.Nat.{sub-zero}
use lib.Bits.{and_le_l}
use borrow.Author.Tests.{lt-leb}
use Rattle.model_base.specs.Finite.{all_to}
use Rattle.model_base.specs.Bits.{bit}
use Rattle.model_base.proofs.Bits.{bit-of-zero, bit-and, bit_not}
use Rattle.model_base.proofs.Peeling.{below-test, all_to-same}

pub bit-ones : (n k : ℕ) → k < n → bit (2 ^ n - 1) k ≡ true
bit-ones n k h = rw (sub-zero, bit-of-zero k) at (bit_not n 0 k (pow_pos n) h)

-- no bit but those of y, as a test of each bit k - 1
pub only-test : (n x y : ℕ) → x < 2 ^ n → y < 2 ^ n
    → eqb (bit_and x (2 ^ n - 1 - y)) 0 ≡ all_to n (λ k. not (bit x (pred k)) || bit y (pred k))
only-test n x y h l =
    sym (below-test n (bit_and x (2 ^ n - 1 - y)) 0 (lt_of_le_of_lt (and_le_l x (2 ^ n - 1 - y)) h)
    ∙ ap (λ (z : ℕ). eqb z 0) (div-one (bit_and x (2 ^ n - 1 - y))))
    ∙ all_to-same n _ _ each
  where
    without : (a b : Bool) → not (a && not b) || false ≡ not a || b
    without true true = refl
    without true false = refl
    without false b = refl

    each : (k : ℕ) → 1 ≤ k → k ≤ n
        → not (bit (bit_and x (2 ^ n - 1 - y)) (pred k)) || leb k 0 ≡ not (bit x (pred k)) || bit y (pred k)
    each k a b =
        rw (bit-and x (2 ^ n - 1 - y) (pred k), bit_not n y (pred k) l (omega arith), lt-leb k 0 a)
        (without (bit x (pred k)) (bit y (pred k)))
