-- Twelve slots as the digits of a word, from the last down: the word so far, a digit further, and one more digit.
-- What is built at place i has at digit j the slot at place i + j, modulo 16.
use Rattle.std.proofs.Common.{ℕ, zero, suc, pred, ◌+◌, ◌*◌, ◌-◌, ◌/◌, ◌%◌, ◌^◌, ◌≤◌, ◌<◌, ◌≡◌, refl, true, List, pow-suc, lt_of_lt_of_le, arith, ltb, get_or, ltb-true, ltb-false}
use mathlib.Core.Path.{fun_ext}
use native.Mathlib.Nat.{pow-le-pow_right}
use Rattle.model_base.specs.Finite.{from_one, within}
use Rattle.model_base.proofs.Tests.{test, within-true, to-within, not_within}
use Rattle.model_sheet.specs.Problem.{max_agents}
use Rattle.abt_packed.specs.Packed.{digit, assignment}
use Rattle.abt_packed.proofs.Digits.{digit-zero, digit-suc, digit-above}
use Rattle.model_image.specs.Reading.{slots_in}
use Rattle.abt_image_reader.specs.Narrow.{narrow_lhs}

pub record Packing (s : List ℕ) (i word : ℕ) : Type 0 where
  pub few : i ≤ 12
  pub small : word < 16 ^ (12 - i)
  pub are : (j : ℕ) → j < 12 - i → digit word j ≡ get_or s (i + j) 0 % 16

module _ (s : List ℕ) where
  pub room : (i word : ℕ) → 0 < i → Packing s i word → word < 16 ^ 11
  room i word l p = lt_of_lt_of_le p.small (pow-le-pow_right {n = 16} (omega arith) {j = 11} (omega arith))

  pub one-packed : (i word b : ℕ) → 0 < i → Packing s i word → b ≡ get_or s (i - 1) 0 → Packing s (i - 1) (word * 16 + b % 16)
  one-packed i word b l p e =
      let t : 12 - (i - 1) ≡ suc (12 - i) = omega (arith, p.few) in
      record {
        few = omega (arith, p.few);
        small = rw (t, pow-suc 16 (12 - i)) (omega (arith, p.small));
        are = λ j h. digits j (omega (arith, p.few));
      }
    where
      digits : (j : ℕ) → j < suc (12 - i) → digit (word * 16 + b % 16) j ≡ get_or s (i - 1 + j) 0 % 16
      digits zero h =
          let q : (word * 16 + b % 16) % 16 ≡ b % 16 = omega arith in
          let z : i - 1 + 0 ≡ i - 1 = omega arith in
          rw (digit-zero (word * 16 + b % 16), q, z, e)
      digits (suc j) h =
          let q : (word * 16 + b % 16) / 16 ≡ word = omega arith in
          let z : i - 1 + suc j ≡ i + j = omega arith in
          rw (digit-suc (word * 16 + b % 16) j, q, z) (p.are j (omega arith))

  pub all-packed : (i word : ℕ) → Packing s i word → i ≡ 0 → (assignment word ≡ narrow_lhs (slots_in s)) × (word < 281474976710656)
  unfolding assignment from_one narrow_lhs slots_in max_agents within
  all-packed i word p z = (fun_ext λ k. go k, rw z at p.small)
    where
      small : word < 16 ^ 12
      small = rw z at p.small

      go : (k : ℕ) → assignment word k ≡ narrow_lhs (slots_in s) k
      go zero = refl
      go (suc k) =
          test (ltb k 12)
          (λ t.
          let h = ltb-true k 12 t in
          let e : i + k ≡ k = omega arith in
          rw (to-within 12 (suc k) (omega arith) (omega arith)) (rw e at (p.are k (omega arith))))
          (λ t.
          let h = ltb-false k 12 t in
          rw (not_within 12 (suc k) (λ l u. omega arith)) (digit-above 12 word k small h))

-- the slots are those of the first twelve bytes
pub slots_same : (s t : List ℕ) → ((k : ℕ) → k < 12 → get_or s k 0 ≡ get_or t k 0) → slots_in s ≡ slots_in t
unfolding slots_in max_agents
slots_same s t h =
    fun_ext λ k. test (within 12 k)
    (λ e. rw e (h (pred k) (below k e)))
    (λ e. rw e)
  where
    below : (k : ℕ) → within 12 k ≡ true → pred k < 12
    below k e = let b = within-true 12 k e in omega arith
