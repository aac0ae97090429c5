-- The sheet, of either edition: from its bytes to a problem, or the first fault. docs/FORMATS.md, 'The sheet', and the numbers 1 to 4 of docs/RULES.md's table.
use Rattle.std.specs.Prelude.{ℕ, zero, suc, pred, ◌+◌, ◌*◌, Bool, true, false, ◌&&◌, List, length, get_or, take, drop, eqb, ltb, leb}
use Rattle.model_base.specs.Finite.{at, within, all_to}
use Rattle.model_sheet.specs.Problem.{Problem, max_agents, no_bans, count_in_range, domain_in_range}
use Rattle.model_sheet.specs.Row.{Row, row_good, with_row}

-- why a sheet is rejected
pub data SheetFault : Type 0 where
  BadLength : SheetFault  -- "length under 24, or not 24 + 8m"
  BadHeader : SheetFault  -- "a header byte outside its range (an edition other than 1 or 2 too), or the first index above m"
  BadRecord : SheetFault  -- "a fault in a record on the chain"
  Cycle : SheetFault  -- "the chain comes back to a record"

-- the table's number
unfoldable pub fault_number : SheetFault → ℕ
fault_number BadLength = 1
fault_number BadHeader = 2
fault_number BadRecord = 3
fault_number Cycle = 4

pub data Decoded : Type 0 where
  Valid : Problem → Decoded
  Invalid : SheetFault → Decoded

unfoldable pub header_length : ℕ
header_length = 24

unfoldable pub record_length : ℕ
record_length = 8

-- "the number of records m, 0 to 4,224"
unfoldable pub max_records : ℕ
max_records = 4224

-- "33,816 bytes is the longest sheet"
unfoldable pub longest_sheet : ℕ
longest_sheet = header_length + record_length * max_records

unfoldable pub byte_at : List ℕ → ℕ → ℕ
byte_at s k = get_or s k 0

-- two bytes, little-endian
unfoldable pub word_from : List ℕ → ℕ → ℕ
word_from s k = byte_at s k + 256 * byte_at s (k + 1)

-- ---- the header

unfoldable pub agents_in : List ℕ → ℕ
agents_in s = byte_at s 0

unfoldable pub edition_in : List ℕ → ℕ
edition_in s = byte_at s 1

unfoldable pub first_in : List ℕ → ℕ
first_in s = word_from s 2

unfoldable pub records_in : List ℕ → ℕ
records_in s = word_from s 4

-- "Bytes 8-19 are the slot counts of scanners 1 to 12"
unfoldable pub domains_in : List ℕ → List ℕ
domains_in s = take max_agents (drop 8 s)

-- the problem of the header alone, with no ban
unfoldable pub without_bans : List ℕ → Problem
without_bans s = record { count = agents_in s; domains = domains_in s; bans = no_bans }

-- "Byte 1 is the edition, 1 or 2"
unfoldable pub header_good : List ℕ → Bool
header_good s =
    count_in_range (without_bans s)
    && within 2 (edition_in s)
    && leb (records_in s) max_records
    && eqb (word_from s 6) 0
    && all_to max_agents (domain_in_range (without_bans s))
    && eqb (word_from s 20) 0
    && eqb (word_from s 22) 0
    && leb (first_in s) (records_in s)

-- ---- the records, numbered from 1

unfoldable pub record_start : ℕ → ℕ
record_start r = header_length + record_length * pred r

-- the row whose first byte is at k
unfoldable pub row_at : List ℕ → ℕ → Row
row_at s k = record { lower = byte_at s k; higher = byte_at s (k + 1); low = byte_at s (k + 2); high = byte_at s (k + 3) }

unfoldable pub row_of : List ℕ → ℕ → Row
row_of s r = row_at s (record_start r)

unfoldable pub next_of : List ℕ → ℕ → ℕ
next_of s r = word_from s (record_start r + 4)

-- record r, where p has the header's n and slot counts: what it says; "its next index is above m, or its last bytes are not zero"
unfoldable pub record_good : List ℕ → Problem → ℕ → Bool
record_good s p r =
    row_good (edition_in s) p (row_of s r) && leb (next_of s r) (records_in s) && eqb (word_from s (record_start r + 6)) 0

-- ---- the walk along the chain. "at each step a record met before comes first and its fields second."

-- at record index r, with the records met before and the problem so far. `steps` bounds the walk: a chain of more than m records has
-- come back to one, so where the steps are used up the fault is the same.
unfoldable pub walk : ℕ → List ℕ → ℕ → (ℕ → Bool) → Problem → Decoded
walk zero s r met p = Invalid Cycle
walk (suc steps) s r met p =
    elim (eqb r 0) [
      | true ↦ Valid p
      | false ↦ elim (met r) [
        | true ↦ Invalid Cycle
        | false ↦ elim (record_good s p r) [
          | true ↦ walk steps s (next_of s r) (at met r true) (with_row (edition_in s) (row_of s r) p)
          | false ↦ Invalid BadRecord
        ]
      ]
    ]

-- "the first fault deciding: a length under 24; the header; the total length; then the walk along the chain."
unfoldable pub decode : List ℕ → Decoded
decode s =
    elim (ltb (length s) header_length) [
      | true ↦ Invalid BadLength
      | false ↦ elim (header_good s) [
        | false ↦ Invalid BadHeader
        | true ↦ elim (eqb (length s) (header_length + record_length * records_in s)) [
          | false ↦ Invalid BadLength
          | true ↦ walk (suc (records_in s)) s (first_in s) (λ r. false) (without_bans s)
        ]
      ]
    ]
