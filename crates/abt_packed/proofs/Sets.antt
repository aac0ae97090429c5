-- A mask with one bit more or less is the set with one agent more or less.
-- Bit by bit: the bit that changes, and the others.
use Rattle.std.proofs.Common.{ℕ, zero, suc, ◌+◌, ◌*◌, ◌-◌, ◌/◌, ◌%◌, ◌^◌, ◌≤◌, ◌<◌, ◌≡◌, refl, sym, ◌∙◌, ◌≢◌, true, false, not-suc-le-zero, one-mul, mod-lt, arith, eqb, bit_or, pow_pos, shl_exact, eqb-true, ne_eqb}
use mathlib.Core.Path.{fun_ext}
use mathlib.Core.Bool.{or-true, or-false}
use lib.Pow.{split, high}
use Rattle.model_base.proofs.Bits.{bit-of-zero, bit-or, bit-pow, with_bit-other}
use borrow.Author.Tests.{eqb-false}
use Rattle.model_base.specs.Finite.{at, from_one}
use Rattle.model_base.specs.Bits.{bit, with_bit}
use Rattle.model_base.proofs.Tests.{test, eq_test}
use Rattle.model_base.proofs.Search.{at_same, at_other}
use Rattle.model_base.specs.Sets.{members}

pub no-members : (k : ℕ) → members 0 k ≡ false
unfolding members from_one
no-members zero = refl
no-members (suc k) = bit-of-zero k

-- as the code has it
pub member-at : (m k : ℕ) → 1 ≤ k → eqb (m / 2 ^ (k - 1) % 2) 1 ≡ members m k
unfolding bit members from_one
member-at m zero h = absurd (not-suc-le-zero h)
member-at m (suc k) h = let e : suc k - 1 ≡ k = omega arith in rw e

pub member-add : (m k : ℕ) → 1 ≤ k → k ≤ 16 → members (bit_or m (1 * 2 ^ (k - 1) % 2 ^ 16)) ≡ at (members m) k true
unfolding members from_one
member-add m zero l h = absurd (not-suc-le-zero l)
member-add m (suc k) l h =
    let e : suc k - 1 ≡ k = omega arith in
    rw (e, shl_exact {a = 1} 1 k 16 (omega arith) (omega arith), one-mul) (fun_ext λ j. go j)
  where
    go : (j : ℕ) → members (bit_or m (2 ^ k)) j ≡ at (members m) (suc k) true j
    go zero = sym (at_other (members m) (suc k) true zero (λ e. omega arith))
    go (suc j) =
        rw (bit-or m (2 ^ k) j, bit-pow k j)
        (test (eqb j k)
        (λ e. rw (e, or-true, eqb-true j k e, at_same (members m) (suc k) true))
        (λ e. rw (e, or-false, at_other (members m) (suc k) true (suc j) (λ u. eqb-false j k e (omega arith)))))

-- ---- one agent less

-- a bit that is set, taken off
pub taken-off : (m k : ℕ) → bit m k ≡ true → (2 ^ k ≤ m) × (bit (m - 2 ^ k) k ≡ false)
unfolding bit
taken-off m k e =
    let q = m / 2 ^ k in
    let odd : q % 2 ≡ 1 = eqb-true (q % 2) 1 e in
    let one : q ≡ q - 1 + 1 = omega arith in
    let parts : (q - 1 + 1) * 2 ^ k + m % 2 ^ k ≡ m = rw (← one) (split m k) in
    let less : m - 2 ^ k ≡ (q - 1) * 2 ^ k + m % 2 ^ k = omega arith in (
      omega arith,
      rw (less, high (q - 1) k (mod-lt m (pow_pos k))) (ne_eqb ((q - 1) % 2) 1 (λ u. omega arith)),
    )

pub other-bits : (m k j : ℕ) → bit m k ≡ true → j ≢ k → bit (m - 2 ^ k) j ≡ bit m j
unfolding with_bit
other-bits m k j e n =
    let t = taken-off m k e in
    let back : m - 2 ^ k + 2 ^ k ≡ m = omega arith in
    sym (with_bit-other (m - 2 ^ k) k j n) ∙ rw (t.1, back)

-- as the code has it
pub record Without (m k r : ℕ) : Type 0 where
  pub out : r ≤ m
  pub is : members (m - r) ≡ at (members m) k false
  pub less : m - r < m

pub member-without : (m k : ℕ) → 1 ≤ k → k ≤ 16 → members m k ≡ true → Without m k (1 * 2 ^ (k - 1) % 2 ^ 16)
unfolding members from_one
member-without m zero l h e = absurd (not-suc-le-zero l)
member-without m (suc k) l h e =
    let d : suc k - 1 ≡ k = omega arith in
    let t = taken-off m k e in
    rw (d, shl_exact {a = 1} 1 k 16 (omega arith) (omega arith), one-mul)
    (record { out = t.0; is = fun_ext λ j. go j; less = omega (arith, pow_pos k) })
  where
    go : (j : ℕ) → members (m - 2 ^ k) j ≡ at (members m) (suc k) false j
    go zero = sym (at_other (members m) (suc k) false zero (λ e. omega arith))
    go (suc j) =
        eq_test j k
        (λ u. rw (u, at_same (members m) (suc k) false) (taken-off m k e).1)
        (λ n. rw (at_other (members m) (suc k) false (suc j) (λ u. n (omega arith))) (other-bits m k j e n))
