-- The lowest byte that has one bit set: that bit of each byte is kept, and the zeros at the low end are counted.
use Rattle.std.proofs.Common.{None, Some, ℕ, suc, pred, ◌+◌, ◌*◌, ◌-◌, ◌/◌, ◌%◌, ◌^◌, ◌≤◌, ◌<◌, ◌≡◌, refl, sym, ap, ◌∙◌, true, false, not, ◌||◌, lt_of_le_of_lt, arith, bit_and, bit_or, eqb, leb, eqb-true, eq-eqb, ne_eqb, leb-true, leb-false}
use mathlib.Core.Bool.{and-true, false≢true}
use lib.Bits.{and_le_r}
use lib.Count.{count_trailing_zeros}
use Rattle.model_base.specs.Finite.{lowest, is_some, all_to}
use Rattle.model_base.specs.Bits.{bit}
use Rattle.model_base.proofs.Tests.{test, eq_test, both, implied, is_some-true}
use Rattle.model_base.proofs.Search.{all_to-at, lowest-some, lowest-range}
use Rattle.model_base.proofs.Bits.{bit-of-zero, bit-and}
use Rattle.model_base.proofs.Peeling.{bit-shr}
use Rattle.model_agent.specs.Shape.{max_named}
use Rattle.abt_choosing.specs.Conflicts.{byte_of}
use Rattle.abt_choosing.specs.declared.Conflicts.{Conflicts}
use Rattle.model_base.proofs.Searches.{lowest-is, lowest-shorter, is_some-passes}
use Rattle.model_base.proofs.Zeros.{trailing-set, trailing-clear}
use Rattle.abt_choosing.proofs.Bytes.{bit-of-low, bit-of-high, words-over}

-- ---- the number that has the lowest bit of each byte

abbrev pub lows : ℕ
lows = 72340172838076673

lows-set : all_to 8 (λ k. bit lows (8 * pred k)) ≡ true
unfolding all_to bit
lows-set = refl

lows-only : all_to 64 (λ k. not (bit lows (pred k)) || eqb (pred k % 8) 0) ≡ true
unfolding all_to bit
lows-only = refl

at_low : (j : ℕ) → j < 8 → bit lows (8 * j) ≡ true
at_low j h = all_to-at 8 (λ k. bit lows (8 * pred k)) lows-set (suc j) (omega arith) h

low-at : (i : ℕ) → i < 64 → bit lows i ≡ true → i % 8 ≡ 0
low-at i h t =
    eqb-true (i % 8) 0
    (implied (bit lows i) (eqb (i % 8) 0) (all_to-at 64 (λ k. not (bit lows (pred k)) || eqb (pred k % 8) 0) lows-only (suc i) (omega arith) h) t)

-- ---- bit d of each byte of x

-- kept, and all others taken off
unfoldable pub marks : ℕ → ℕ → ℕ
marks x d = bit_and (x / 2 ^ d) lows

mark-bit : (x d j : ℕ) → j < 8 → bit (marks x d) (8 * j) ≡ bit x (8 * j + d)
unfolding marks
mark-bit x d j h =
    let e : d + 8 * j ≡ 8 * j + d = omega arith in
    rw (bit-and (x / 2 ^ d) lows (8 * j), at_low j h, and-true, bit-shr x d (8 * j), e)

unmarked : (x d : ℕ) → marks x d ≡ 0 → (j : ℕ) → j < 8 → bit x (8 * j + d) ≡ false
unmarked x d z j h = sym (mark-bit x d j h) ∙ rw z (bit-of-zero (8 * j))

pub record Marked (x d k : ℕ) : Type 0 where
  pub few : k < 8
  pub here : bit x (8 * k + d) ≡ true
  pub clear : (j : ℕ) → j < k → bit x (8 * j + d) ≡ false

marked : (x d : ℕ) → 1 ≤ marks x d → Marked x d (count_trailing_zeros 64 (marks x d) / 8)
unfolding marks
marked x d l =
    let (few, set) = trailing-set 64 (marks x d) l (lt_of_le_of_lt (and_le_r (x / 2 ^ d) lows) (omega arith)) in
    let t = count_trailing_zeros 64 (marks x d) in
    let low : bit lows t ≡ true = (both (bit (x / 2 ^ d) t) (bit lows t) (sym (bit-and (x / 2 ^ d) lows t) ∙ set)).1 in
    let resolvent : 8 * (t / 8) ≡ t = omega (arith, low-at t few low) in
    record {
      few = omega arith;
      here = sym (mark-bit x d (t / 8) (omega arith)) ∙ ap (λ (i : ℕ). bit (marks x d) i) resolvent ∙ set;
      clear = λ j h. sym (mark-bit x d j (omega arith)) ∙ trailing-clear 64 (marks x d) (8 * j) (omega arith);
    }

-- ---- some byte of either word has bit d

pub some-marked : (b : Conflicts) (d : ℕ) → d < 8
    → not (eqb (marks (bit_or b.low b.high) d) 0) ≡ is_some (lowest max_named 1 (λ k. bit (byte_of b k) d))
some-marked b d small =
    let x = bit_or b.low b.high in
    eq_test (marks x d) 0
    (λ z.
    rw (eq-eqb (marks x d) 0 z, words-over b d small)
    (sym (test (is_some (lowest 8 1 (λ k. bit x (8 * (k - 1) + d))))
    (λ t.
    let f = is_some-true (lowest 8 1 (λ k. bit x (8 * (k - 1) + d))) t in
    let r = lowest-range 8 1 (λ k. bit x (8 * (k - 1) + d)) f.0 f.1 in
    absurd (false≢true (sym (unmarked x d z (f.0 - 1) (omega arith)) ∙ lowest-some 8 1 (λ k. bit x (8 * (k - 1) + d)) f.0 f.1)))
    (λ t. t))))
    (λ n.
    let m = marked x d (omega (arith, n)) in
    let k = count_trailing_zeros 64 (marks x d) / 8 in
    let e : k + 1 - 1 ≡ k = omega arith in
    rw (ne_eqb (marks x d) 0 n, words-over b d small)
    (sym (is_some-passes 8 1 (λ k. bit x (8 * (k - 1) + d)) (k + 1) (omega arith) (omega (arith, m.few)) (rw e m.here))))

-- ---- the lowest agent whose byte has bit d

module _ (b : Conflicts) (d : ℕ) (small : d < 8) where
  pub first-low : 1 ≤ marks b.low d
      → Some (count_trailing_zeros 64 (marks b.low d) / 8 + 1) ≡ lowest max_named 1 (λ k. bit (byte_of b k) d)
  unfolding max_named
  first-low l =
      let m = marked b.low d l in
      let k = count_trailing_zeros 64 (marks b.low d) / 8 in
      let e : k + 1 - 1 ≡ k = omega arith in
      let here : bit (byte_of b (k + 1)) d ≡ true = bit-of-low b (k + 1) d (omega arith) small ∙ rw e m.here in
      rw (lowest-is 16 1 (λ k. bit (byte_of b k) d) (k + 1) (omega arith) (omega arith) here
      (λ j a h. bit-of-low b j d (omega arith) small ∙ m.clear (j - 1) (omega arith)))

  low_clear : marks b.low d ≡ 0 → (j : ℕ) → 1 ≤ j → j ≤ 8 → bit (byte_of b j) d ≡ false
  low_clear z j l h = bit-of-low b j d h small ∙ unmarked b.low d z (j - 1) (omega arith)

  pub first-high : marks b.low d ≡ 0 → 1 ≤ marks b.high d
      → Some (count_trailing_zeros 64 (marks b.high d) / 8 + 9) ≡ lowest max_named 1 (λ k. bit (byte_of b k) d)
  unfolding max_named
  first-high z l =
      let m = marked b.high d l in
      let k = count_trailing_zeros 64 (marks b.high d) / 8 in
      let e : k + 9 - 9 ≡ k = omega arith in
      let here : bit (byte_of b (k + 9)) d ≡ true = bit-of-high b (k + 9) d (omega arith) small ∙ rw e m.here in
      rw (lowest-is 16 1 (λ k. bit (byte_of b k) d) (k + 9) (omega arith) (omega arith) here
      (λ j a h.
      test (leb j 8)
      (λ t. low_clear z j a (leb-true j 8 t))
      (λ t. let over = leb-false j 8 t in bit-of-high b j d over small ∙ m.clear (j - 9) (omega arith))))

  pub first-none : marks b.low d ≡ 0 → marks b.high d ≡ 0 → None ≡ lowest max_named 1 (λ k. bit (byte_of b k) d)
  unfolding max_named lowest
  first-none z y =
      let none-set : lowest 16 1 (λ k. bit (byte_of b k) d) ≡ None =
      lowest-shorter 16 0 1 (λ k. bit (byte_of b k) d) (λ k. bit (byte_of b k) d) (omega arith) (λ j a h. refl)
      (λ j a h.
      test (leb j 8)
      (λ t. low_clear z j a (leb-true j 8 t))
      (λ t. let over = leb-false j 8 t in bit-of-high b j d over small ∙ unmarked b.high d y (j - 9) (omega arith))) in
      rw none-set
