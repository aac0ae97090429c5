-- Which choices of slots a sheet bans. A choice is a list of slots, that of scanner 1 first; what is no scanner has none.
use Rattle.std.specs.Prelude.{ℕ, zero, suc, ◌+◌, Bool, true, false, not, cond, ◌&&◌, ◌||◌, List, [], ◌∷◌, Option, Some, None, eqb, leb, get_or}
use Rattle.std.specs.Option.{unwrap_or}
use Rattle.gate_second_reading.specs.Bytes.{byte_of, word_of, of_gaps, gap_of, record_of, next_of}

-- the slot of scanner i
unfoldable pub slot_in : List (Option ℕ) → ℕ → Option ℕ
slot_in c zero = None
slot_in c (suc k) = get_or c k None

-- what a rail answers for a scanner: 0 where it has no slot
unfoldable pub slot_from : ℕ → Option ℕ
slot_from zero = None
slot_from (suc k) = Some (suc k)

-- the record bans slot `low` of its lower scanner with slot `high` of its higher one: they are the two that it names, or the higher one, 7 more, is as
-- far above the lower one as its gaps say, 7 more
unfoldable pub bans_slots : List ℕ → List ℕ → ℕ → ℕ → Bool
bans_slots s bytes low high =
    cond
    (of_gaps s)
    (leb (low + gap_of bytes 2) (high + 7) && leb (high + 7) (low + gap_of bytes 3))
    (eqb low (byte_of bytes 2) && eqb high (byte_of bytes 3))

-- the record bans what its two scanners have; a scanner without a slot counts as one with slot 0
abbrev pub bans_both : List ℕ → List ℕ → Option ℕ → Option ℕ → Bool
bans_both s bytes low high = bans_slots s bytes (unwrap_or low 0) (unwrap_or high 0)

-- record r bans the choice
unfoldable pub bans_choice : List ℕ → List (Option ℕ) → ℕ → Bool
bans_choice s c r = bans_both s (record_of s r) (slot_in c (byte_of (record_of s r) 0)) (slot_in c (byte_of (record_of s r) 1))

-- record r is one of scanners i and j
unfoldable pub is_of : List ℕ → ℕ → ℕ → ℕ → Bool
is_of s i j r = eqb (byte_of (record_of s r) 0) i && eqb (byte_of (record_of s r) 1) j

-- ---- the chain

-- the records of the chain from record r on, at most `left` of them
unfoldable pub chain_from : ℕ → List ℕ → ℕ → List ℕ
chain_from zero s r = []
chain_from (suc left) s r = elim (eqb r 0) [ true ↦ [] | false ↦ r ∷ chain_from left s (next_of s r) ]

-- the records of the sheet's chain, at most as many as it has records
unfoldable pub chain_of : List ℕ → List ℕ
chain_of s = chain_from (word_of s 4) s (word_of s 2)

-- f holds of some record of the list
unfoldable pub some_of : (ℕ → Bool) → List ℕ → Bool
some_of f [] = false
some_of f (r ∷ rs) = f r || some_of f rs

-- some record of the chain, of scanners i and j, bans the choice
unfoldable pub forbids_on : List ℕ → ℕ → ℕ → List (Option ℕ) → Bool
forbids_on s i j c = some_of (λ r. is_of s i j r && bans_choice s c r) (chain_of s)

-- no record of the chain bans the choice
unfoldable pub obeys_all : List ℕ → List (Option ℕ) → Bool
obeys_all s c = not (some_of (bans_choice s c) (chain_of s))
