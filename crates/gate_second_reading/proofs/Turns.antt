-- One turn of the loops through the choices, each by the definition of what is left to do; and the slots of a choice.
use Rattle.model_base.proofs.Tests.{test}
use Rattle.model_base.proofs.Arrays.{get_d_past}
use Rattle.gate_second_reading.specs.Bytes.{slots_of}
use Rattle.gate_second_reading.specs.Bans.{slot_in, obeys_all}
use Rattle.std.proofs.Common.{Option, Some, None, ℕ, zero, suc, ◌+◌, ◌-◌, ◌≤◌, ◌<◌, ◌≡◌, refl, ap, ◌∙◌, true, false, List, arith, leb, length, get_or, set, lt-ltb, le-ltb, leb-true, leb-false}
use Rattle.std.specs.Option.{unwrap_or}
use Rattle.gate_second_reading.specs.Choices.{with_slot, next_from, next_choice, solvable_from}
use Rattle.gate_second_reading.specs.declared.choices.Choice.{Choice}

-- ---- slots

-- there is no scanner 0, and none past the last
pub slot-none : (c : List (Option ℕ)) (i : ℕ) → (0 < i → i ≤ length c → ⊥) → slot_in c i ≡ None
unfolding slot_in
slot-none c zero n = refl
slot-none c (suc k) n = le_test (length c) k (λ l. get_d_past c k None l) (λ l. absurd (n (omega arith) (omega arith)))
  where
    le_test : {C : Type 0} (a b : ℕ) → (a ≤ b → C) → (b < a → C) → C
    le_test a b f g = test (leb a b) (λ t. f (leb-true a b t)) (λ t. g (leb-false a b t))

pub slot_at : (c : List (Option ℕ)) (i : ℕ) → 0 < i → slot_in c i ≡ get_or c (i - 1) None
unfolding slot_in
slot_at c zero l = absurd (omega arith)
slot_at c (suc k) l = let e : suc k - 1 ≡ k = omega arith in rw e

-- ---- the next choice

pub next_none : (left : ℕ) (s : List ℕ) (i : ℕ) (c : List (Option ℕ)) → left ≡ 0 → next_from left s i c ≡ None
unfolding next_from
next_none left s i c e = rw e

module _ (left : ℕ) (s : List ℕ) (i : ℕ) (c : List (Option ℕ)) (v : ℕ) (l : 0 < left) (n : 0 < i) (e : v ≡ unwrap_or (get_or c (i - 1) None) 0) where
  pub next-here : v < slots_of s i → next_from left s i c ≡ Some (record { of = set c (i - 1) (Some (v + 1)) })
  unfolding with_slot next_from
  next-here h = let m : left ≡ suc (left - 1) = omega arith in rw (m, next_from, slot_at c i n, ← e, lt-ltb v (slots_of s i) h)

  pub next-later : slots_of s i ≤ v → next_from left s i c ≡ next_from (left - 1) s (i + 1) (set c (i - 1) (Some 1))
  unfolding with_slot next_from
  next-later h =
      let m : left ≡ suc (left - 1) = omega arith in
      ap (λ (m : ℕ). next_from m s i c) m ∙ rw (next_from, slot_at c i n, ← e, le-ltb v (slots_of s i) h)

-- ---- the search

pub solvable-found : (left : ℕ) (s : List ℕ) (c : Choice) → obeys_all s c.of ≡ true → solvable_from left s c ≡ true
unfolding solvable_from
solvable-found zero s c e = refl
solvable-found (suc left) s c e = rw (e, solvable_from)

pub solvable-ends : (left : ℕ) (s : List ℕ) (c : Choice) → left ≤ 0 → solvable_from left s c ≡ true
unfolding solvable_from
solvable-ends zero s c l = refl
solvable-ends (suc left) s c l = absurd (omega arith)

module _ (left : ℕ) (s : List ℕ) (c : Choice) (l : 0 < left) (e : obeys_all s c.of ≡ false) where
  pub solvable-over : next_choice s c ≡ None → solvable_from left s c ≡ false
  unfolding solvable_from
  solvable-over h = let n : left ≡ suc (left - 1) = omega arith in rw (n, solvable_from, e, solvable_from, h)

  pub solvable-goes : (next : Choice) → next_choice s c ≡ Some next → solvable_from left s c ≡ solvable_from (left - 1) s next
  unfolding solvable_from
  solvable-goes next h =
      let n : left ≡ suc (left - 1) = omega arith in
      ap (λ (m : ℕ). solvable_from m s c) n ∙ rw (solvable_from, e, solvable_from, h)
