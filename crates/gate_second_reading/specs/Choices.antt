-- All choices of slots in order, and whether one of them obeys a sheet's bans.
use Rattle.std.specs.Prelude.{ℕ, zero, suc, ◌+◌, ◌-◌, Bool, true, false, cond, ◌&&◌, List, Option, Some, None, eqb, ltb, replicate, set}
use Rattle.std.specs.Option.{unwrap_or}
use Rattle.gate_second_reading.specs.Bytes.{slots_of, each_to}
use Rattle.gate_second_reading.specs.Faults.{owned_by}
use Rattle.gate_second_reading.specs.Bans.{slot_in, obeys_all}
use Rattle.gate_second_reading.specs.declared.choices.Choice.{Choice}

-- each scanner has its first slot
unfoldable pub first_choice : Choice
first_choice = record { of = replicate 12 (Some 1) }

-- scanner i has slot v
unfoldable pub with_slot : List (Option ℕ) → ℕ → ℕ → List (Option ℕ)
with_slot c i v = set c (i - 1) (Some v)

-- the slot behind this one, where there are so many, and none behind the last; a scanner without a slot counts as one with slot 0
abbrev pub next_slot : ℕ → Option ℕ → Option ℕ
next_slot slots slot = cond (ltb (unwrap_or slot 0) slots) (Some (unwrap_or slot 0 + 1)) None

-- where the scanners before i are through with their slots: the first of the `left` scanners from scanner i on that isn't takes its next one, and those
-- before it begin again; none behind the last choice
unfoldable pub next_from : ℕ → List ℕ → ℕ → List (Option ℕ) → Option Choice
next_from zero s i c = None
next_from (suc left) s i c =
    elim (next_slot (slots_of s i) (slot_in c i)) [
      | Some v ↦ Some (record { of = with_slot c i v })
      | None ↦ next_from left s (i + 1) (with_slot c i 1)
    ]

-- the next choice, and none behind the last one
unfoldable pub next_choice : List ℕ → Choice → Option Choice
next_choice s c = next_from 12 s 1 c.of

-- one of the choices from c on obeys all bans, or there are more than `left` of them
unfoldable pub solvable_from : ℕ → List ℕ → Choice → Bool
solvable_from zero s c = true
solvable_from (suc left) s c =
    elim (obeys_all s c.of) [
      | true ↦ true
      | false ↦ elim (next_choice s c) [
        | None ↦ false
        | Some next ↦ solvable_from left s next
      ]
    ]

-- one of all choices obeys all bans; a sheet with more than 40,000 choices counts as one that has such a choice
unfoldable pub solvable_by : List ℕ → Bool
solvable_by s = solvable_from 40000 s first_choice

-- the slot is one of scanner i's, or there is no such scanner and no slot
abbrev pub owned_or_none : List ℕ → ℕ → Option ℕ → Bool
owned_or_none s i (Some v) = owned_by s i v
owned_or_none s i None = eqb (slots_of s i) 0

-- scanner i has a slot of its own, or there is no such scanner and it has none
unfoldable pub slot_owned : List ℕ → List (Option ℕ) → ℕ → Bool
slot_owned s c i = owned_or_none s i (slot_in c i)

-- each scanner has a slot of its own, and no ban is broken
unfoldable pub settled_by : List ℕ → List (Option ℕ) → Bool
settled_by s c = each_to 12 (slot_owned s c) && obeys_all s c
