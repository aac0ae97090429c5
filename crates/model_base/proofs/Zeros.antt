-- The zeros at the low end of a number: below them no bit is set, and there one is.
use Rattle.std.proofs.Common.{ℕ, zero, suc, ◌/◌, ◌%◌, ◌^◌, ◌≤◌, ◌<◌, ◌≡◌, ◌∙◌, true, false, not-suc-le-zero, pow-suc, arith, eqb, eqb-true}
use lib.Count.{count_trailing_zeros}
use borrow.Author.Tests.{eqb-false}
use Rattle.model_base.specs.Bits.{bit}
use Rattle.model_base.proofs.Tests.{test}
use Rattle.model_base.proofs.Bits.{bit-zero, bit-suc}

pub trailing-set : (w m : ℕ) → 1 ≤ m → m < 2 ^ w → (count_trailing_zeros w m < w) × (bit m (count_trailing_zeros w m) ≡ true)
unfolding count_trailing_zeros
trailing-set zero m l h = absurd (omega arith)
trailing-set (suc w) m l h =
    test (eqb (m % 2) 1)
    (λ e. rw (eqb-true (m % 2) 1 e) (omega arith, bit-zero m ∙ e))
    (λ e.
    let z : m % 2 ≡ 0 = omega (arith, eqb-false (m % 2) 1 e) in
    let r = trailing-set w (m / 2) (omega arith) (omega (arith, pow-suc 2 w)) in
    rw z (omega arith, bit-suc m (count_trailing_zeros w (m / 2)) ∙ r.1))

pub trailing-clear : (w m i : ℕ) → i < count_trailing_zeros w m → bit m i ≡ false
unfolding count_trailing_zeros
trailing-clear zero m i h = absurd (not-suc-le-zero h)
trailing-clear (suc w) m i h =
    test (eqb (m % 2) 1)
    (λ e. let g : i < 0 = rw (eqb-true (m % 2) 1 e) at h in absurd (not-suc-le-zero g))
    (λ e.
    let z : m % 2 ≡ 0 = omega (arith, eqb-false (m % 2) 1 e) in
    let g : i < suc (count_trailing_zeros w (m / 2)) = rw z at h in
    even i e g (trailing-clear w (m / 2)))
  where
    even : (i : ℕ) → eqb (m % 2) 1 ≡ false → i < suc (count_trailing_zeros w (m / 2))
        → ((j : ℕ) → j < count_trailing_zeros w (m / 2) → bit (m / 2) j ≡ false) → bit m i ≡ false
    even zero e g rest = bit-zero m ∙ e
    even (suc i) e g rest = bit-suc m i ∙ rest i (omega arith)
