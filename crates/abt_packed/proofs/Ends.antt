-- The lowest agent of a set, and the lowest and the highest that a packed word names, by the zeros at the word's ends.
use Rattle.std.proofs.Common.{None, Some, ℕ, zero, suc, ◌+◌, ◌*◌, ◌-◌, ◌/◌, ◌%◌, ◌^◌, ◌≤◌, ◌<◌, ◌≡◌, ◌∙◌, true, false, not-suc-le-zero, le-div_iff_mul-le, lt_of_lt_of_le, pow-suc, add-one, arith, pow_pos, pow_mono}
use lib.Count.{count_trailing_zeros, count_leading_zeros, leading_length}
use lib.Pow.{shr_mod}
use Rattle.model_base.specs.Finite.{from_one, highest}
use Rattle.model_base.specs.Bits.{bit}
use Rattle.model_base.proofs.Bits.{bit-positive}
use Rattle.model_base.proofs.Peeling.{zero_bits}
use Rattle.model_agent.specs.Message.{known, nobody}
use Rattle.model_agent.specs.Shape.{max_named}
use Rattle.model_base.specs.Sets.{members}
use Rattle.abt_packed.specs.Packed.{digit, assignment, Lowest}
use Rattle.abt_packed.proofs.Known.{known_from}
use Rattle.model_base.proofs.Searches.{lowest-is, highest-is, highest-empty}
use Rattle.model_base.proofs.Zeros.{trailing-set, trailing-clear}
use Rattle.abt_packed.proofs.Digits.{pow16, digit-shr, digit_lt, digit-bit, digit-above, nobody-assigned}

-- ---- the lowest agent of a set

pub first_member : (m : ℕ) → 1 ≤ m → m < 2 ^ 16 → Lowest (members m) (count_trailing_zeros 16 m + 1)
unfolding members from_one max_named
first_member m l h =
    let (few, set) = trailing-set 16 m l h in
    rw (add-one (count_trailing_zeros 16 m))
    (lowest-is 16 1 (members m) (suc (count_trailing_zeros 16 m)) (omega arith) (omega arith) set below, set, omega arith, omega arith)
  where
    below : (j : ℕ) → 1 ≤ j → j < suc (count_trailing_zeros 16 m) → members m j ≡ false
    below zero a b = absurd (not-suc-le-zero a)
    below (suc j) a b = trailing-clear 16 m j (omega arith)

-- ---- the lowest agent that a word names

clear-digit : (x j : ℕ) → suc j ≤ count_trailing_zeros 64 x / 4 → known (digit x j) ≡ false
unfolding known
clear-digit x j h =
    rw (zero_bits 4 (digit x j) (digit_lt x j) (λ i c. digit-bit x j i c ∙ trailing-clear 64 x (4 * j + i) (omega arith)))

pub first-named : (x : ℕ) → 1 ≤ x → x < 2 ^ 64 → Lowest (λ k. known (assignment x k)) (count_trailing_zeros 64 x / 4 + 1)
unfolding assignment from_one max_named
first-named x l h =
    let (few, set) = trailing-set 64 x l h in
    let t = count_trailing_zeros 64 x in
    let i : 4 * (t / 4) + t % 4 ≡ t = omega arith in
    let here : bit (digit x (t / 4)) (t % 4) ≡ true = rw (digit-bit x (t / 4) (t % 4) (omega arith), i) set in
    let named = known_from (digit x (t / 4)) (bit-positive (digit x (t / 4)) (t % 4) here) in
    rw (add-one (t / 4))
    (lowest-is 16 1 (λ k. known (assignment x k)) (suc (t / 4)) (omega arith) (omega arith) named below, named, omega arith, omega arith)
  where
    below : (j : ℕ) → 1 ≤ j → j < suc (count_trailing_zeros 64 x / 4) → known (assignment x j) ≡ false
    below zero a b = absurd (not-suc-le-zero a)
    below (suc j) a b = clear-digit x j (omega arith)

-- ---- the highest agent that a word names

none_named : (j : ℕ) → known (assignment 0 j) ≡ false
unfolding known nobody
none_named j = rw nobody-assigned

-- a word of more than 4 q bits and at most four more
module _ (x q : ℕ) (long : 2 ^ (4 * q) ≤ x) (short : x < 2 ^ (4 + 4 * q)) where
  top-named : known (digit x q) ≡ true
  top-named =
      known_from (digit x q)
      (rw (digit-shr x q, shr_mod 4 (4 * q) short) ((le-div_iff_mul-le (pow_pos (4 * q))).1 (omega arith)))

  none_above : (j : ℕ) → suc q < j → known (assignment x j) ≡ false
  unfolding assignment from_one known
  none_above zero h = absurd (not-suc-le-zero h)
  none_above (suc j) h =
      let e : 4 + 4 * q ≡ 4 * suc q = omega arith in
      let fits : x < 16 ^ suc q = rw (pow16 (suc q), ← e) short in
      rw (digit-above (suc q) x j fits (omega arith))

  top : q < 16 → highest max_named (λ k. known (assignment x k)) ≡ Some (suc q)
  unfolding max_named assignment from_one
  top h = highest-is 16 (λ k. known (assignment x k)) (suc q) (omega arith) h top-named (λ j a b. none_above j a)

-- a word of m bits has (m + 3) / 4 digits
top_digit : (x m : ℕ) → 1 ≤ x → x < 2 ^ m → 2 ^ m ≤ 2 * x + 1 → m ≤ 64
    → highest max_named (λ k. known (assignment x k)) ≡ Some ((3 + m) / 4)
top_digit x zero some_named h l few = absurd (omega arith)
top_digit x (suc m) some_named h l few =
    let q : (3 + suc m) / 4 ≡ suc (m / 4) = omega arith in
    let long : 2 ^ (4 * (m / 4)) ≤ 2 ^ m = pow_mono (omega arith) in
    let short : 2 ^ suc m ≤ 2 ^ (4 + 4 * (m / 4)) = pow_mono (omega arith) in
    rw q (top x (m / 4) (omega (arith, pow-suc 2 m)) (lt_of_lt_of_le h short) (omega arith))

pub last-named : (x : ℕ) → 1 ≤ x → x < 2 ^ 64
    → highest max_named (λ j. known (assignment x j)) ≡ Some ((67 - count_leading_zeros 64 x) / 4)
last-named x l h =
    let (m, e, s, t) = leading_length 64 x h in
    let d : 67 - count_leading_zeros 64 x ≡ 3 + m = omega arith in
    rw d (top_digit x m l s t (omega arith))

pub nobody-named : highest max_named (λ k. known (assignment 0 k)) ≡ None
nobody-named = highest-empty max_named (λ k. known (assignment 0 k)) (λ j a b. none_named j)
