-- A sheet's first fault: its length, its header, a record, or a chain that comes back.
use Rattle.std.specs.Prelude.{ℕ, zero, suc, ◌+◌, ◌*◌, Bool, true, false, cond, ◌&&◌, List, Option, Some, None, eqb, ltb, leb, length}
use Rattle.gate_second_reading.specs.Bytes.{byte_of, word_of, slots_of, of_gaps, gap_of, record_of, next_of, each_to}
use Rattle.gate_second_reading.specs.declared.reading.SheetRejection.{SheetRejection}
use Rattle.gate_second_reading.specs.declared.reading.SheetRejection.TheVariants.{Length, Header, Record, Chain}

-- the number that a refusal has, as the table of refusals gives it
abbrev pub fault_number : SheetRejection → ℕ
fault_number Length = 1
fault_number Header = 2
fault_number Record = 3
fault_number Chain = 4

-- ---- the header

-- scanner i has 1 to 8 slots, or none where there is no such scanner
unfoldable pub slots_right : List ℕ → ℕ → Bool
slots_right s i = cond (leb i (byte_of s 0)) (ltb 0 (slots_of s i) && ltb (slots_of s i) 9) (eqb (slots_of s i) 0)

-- 1 to 12 scanners, edition 1 or 2
unfoldable pub kind_right : List ℕ → Bool
kind_right s = ltb 0 (byte_of s 0) && ltb (byte_of s 0) 13 && ltb 0 (byte_of s 1) && ltb (byte_of s 1) 3

-- at most 4,224 records, and the first one of the chain is one of them, or 0
unfoldable pub records_right : List ℕ → Bool
records_right s = leb (word_of s 4) 4224 && leb (word_of s 2) (word_of s 4)

-- what is not used is zero
unfoldable pub rest_zero : List ℕ → Bool
rest_zero s = eqb (word_of s 6) 0 && eqb (word_of s 20) 0 && eqb (word_of s 22) 0

unfoldable pub header_right : List ℕ → Bool
header_right s = kind_right s && records_right s && rest_zero s && each_to 12 (slots_right s)

-- ---- the records

-- v is a slot of scanner i
unfoldable pub owned_by : List ℕ → ℕ → ℕ → Bool
owned_by s i v = ltb 0 v && leb v (slots_of s i)

-- bytes 2 and 3 of the record: gaps in order, up to 7, or a slot of each of its two scanners
unfoldable pub fields_right : List ℕ → List ℕ → Bool
fields_right s bytes =
    cond
    (of_gaps s)
    (leb (gap_of bytes 2) (gap_of bytes 3) && ltb (gap_of bytes 3) 15)
    (owned_by s (byte_of bytes 0) (byte_of bytes 2) && owned_by s (byte_of bytes 1) (byte_of bytes 3))

-- bytes 0 and 1: two scanners, the lower one first
unfoldable pub scanners_right : List ℕ → List ℕ → Bool
scanners_right s bytes = ltb 0 (byte_of bytes 0) && ltb (byte_of bytes 0) (byte_of bytes 1) && leb (byte_of bytes 1) (byte_of s 0)

-- bytes 4 to 7: the record behind it is one of the sheet's, or 0, and the last two are zero
unfoldable pub tail_right : List ℕ → List ℕ → Bool
tail_right s bytes = leb (word_of bytes 4) (word_of s 4) && eqb (word_of bytes 6) 0

unfoldable pub record_right : List ℕ → ℕ → Bool
record_right s r = scanners_right s (record_of s r) && fields_right s (record_of s r) && tail_right s (record_of s r)

-- ---- the chain

-- the fault of the chain from record r on, where `left` records more can be good ones: a chain that goes on after that has come back to one
unfoldable pub chain_fault : ℕ → List ℕ → ℕ → Option SheetRejection
chain_fault zero s r = cond (eqb r 0) None (Some Chain)
chain_fault (suc left) s r =
    elim (eqb r 0) [
      | true ↦ None
      | false ↦ elim (record_right s r) [
        | true ↦ chain_fault left s (next_of s r)
        | false ↦ Some Record
      ]
    ]

-- ---- the sheet

-- the first fault: too short for a header, the header, not as long as it says, the chain
unfoldable pub fault_of : List ℕ → Option SheetRejection
fault_of s =
    cond
    (ltb (length s) 24)
    (Some Length)
    (cond
    (header_right s)
    (cond (eqb (length s) (24 + 8 * word_of s 4)) (chain_fault (word_of s 4) s (word_of s 2)) (Some Length))
    (Some Header))
