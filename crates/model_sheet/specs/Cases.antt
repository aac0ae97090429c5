-- Worked cases of the sheet's checks, each worked out from docs/FORMATS.md, 'The sheet', and docs/PROGRAMS.md, 'dock'.
use Rattle.std.specs.Prelude.{ℕ, pred, ◌-◌, Bool, false, not, ◌&&◌, List, [], ◌∷◌, ◌++◌, set, take, replicate, eqb}
use Rattle.model_base.specs.Finite.{all_to}
use Rattle.model_base.specs.Same.{same_bool, same_numbers}
use Rattle.model_sheet.specs.Problem.{Problem, max_domain, banned, linked}
use Rattle.model_sheet.specs.Row.{Row, rows_ban}
use Rattle.model_sheet.specs.Sheet.{Decoded, Valid, Invalid, fault_number, decode}
use Rattle.model_sheet.specs.Writing.{header_bytes, row_bytes}

-- ---- what a case says of a sheet

-- the row that bans i:v with j:w
abbrev pub ban : ℕ → ℕ → ℕ → ℕ → Row
ban i v j w = record { lower = i; higher = j; low = v; high = w }

-- the row that bans the gaps from least to greatest, as signed bytes
abbrev pub gaps : ℕ → ℕ → ℕ → ℕ → Row
gaps i j least greatest = record { lower = i; higher = j; low = least; high = greatest }

pub data Case : Type 0 where
  Rejected : List ℕ → ℕ → Case  -- refused with this number
  Reads : List ℕ → ℕ → List ℕ → List Row → Case  -- good, with this n, these slot counts and exactly these bans
  Same : List ℕ → List ℕ → Case  -- good both, and the same problem
  Unlinked : List ℕ → ℕ → ℕ → Case  -- good, and these two agents are not linked

-- of all that two of its agents could have banned, exactly these are
unfoldable pub bans_are : List Row → Problem → Bool
bans_are bs p =
    all_to p.count
    (λ j. all_to (pred j) (λ i. all_to max_domain (λ v. all_to max_domain (λ w. same_bool (banned p i j v w) (rows_ban 1 p bs i j v w)))))

unfoldable pub rejected_with : ℕ → Decoded → Bool
rejected_with number (Valid p) = false
rejected_with number (Invalid f) = eqb (fault_number f) number

unfoldable pub read_as : ℕ → List ℕ → List Row → Decoded → Bool
read_as n domains bs (Valid p) = eqb p.count n && same_numbers p.domains domains && bans_are bs p
read_as n domains bs (Invalid f) = false

unfoldable pub same_problem : Problem → Decoded → Bool
same_problem p (Valid q) = eqb p.count q.count && same_numbers p.domains q.domains && same_numbers p.bans q.bans
same_problem p (Invalid f) = false

unfoldable pub same_decoded : Decoded → Decoded → Bool
same_decoded (Valid p) d = same_problem p d
same_decoded (Invalid f) d = false

unfoldable pub apart : ℕ → ℕ → Decoded → Bool
apart i j (Valid p) = not (linked p i j)
apart i j (Invalid f) = false

unfoldable pub case_holds : Case → Bool
case_holds (Rejected s number) = rejected_with number (decode s)
case_holds (Reads s n domains bs) = read_as n domains bs (decode s)
case_holds (Same s t) = same_decoded (decode s) (decode t)
case_holds (Unlinked s i j) = apart i j (decode s)

-- ---- sheets, as bytes

-- n, first index, m, twelve slot counts
unfoldable pub header : ℕ → ℕ → ℕ → List ℕ → List ℕ
header = header_bytes 1

-- lower, higher, slot of the lower, slot of the higher, next
unfoldable pub row : ℕ → ℕ → ℕ → ℕ → ℕ → List ℕ
row i j v w = row_bytes (ban i v j w)

-- the same of edition 2; a gap below zero as a signed byte
unfoldable pub gap_header : ℕ → ℕ → ℕ → List ℕ → List ℕ
gap_header = header_bytes 2

unfoldable pub minus : ℕ → ℕ
minus k = 256 - k

-- lower, higher, least and greatest gap, next
unfoldable pub gap_row : ℕ → ℕ → ℕ → ℕ → ℕ → List ℕ
gap_row i j least greatest = row_bytes (gaps i j least greatest)

-- what a spare record may hold
unfoldable pub garbage : List ℕ
garbage = replicate 8 255

-- the slot counts of one agent with one slot, of two agents with two slots each, and of twelve with eight
unfoldable pub one : List ℕ
one = 1 ∷ replicate 11 0

unfoldable pub twos : List ℕ
twos = 2 ∷ 2 ∷ replicate 10 0

unfoldable pub eights : List ℕ
eights = replicate 12 8

-- and of two agents with two and three slots
unfoldable pub two_three : List ℕ
two_three = 2 ∷ 3 ∷ replicate 10 0

-- one agent, no records
unfoldable pub plain : List ℕ
plain = header 1 0 0 one

-- two agents, one record
unfoldable pub single : List ℕ → List ℕ
single record1 = header 2 1 1 twos ++ record1

-- two agents and two good records, the second ending the chain; the first's next index is given
unfoldable pub chain : ℕ → List ℕ
chain next = header 2 1 2 twos ++ row 1 2 1 1 next ++ row 1 2 2 2 0

-- two agents with two and three slots, one record of edition 2
unfoldable pub far : List ℕ → List ℕ
far record1 = gap_header 2 1 1 two_three ++ record1

unfoldable pub rejections : List Case
rejections =
    -- "Two good records, the second ending the chain: record 1 with next 1 is refused with 4, with next 2 it is good, with next 3 refused with 3."
    Rejected (chain 1) 4
    ∷ Rejected (chain 3) 3
    -- "A sheet of 23 bytes: 1. An m of 4,225: 2." The length comes before the header; m of 4,224 is in range, and 24 bytes are then too few
    ∷ Rejected [] 1
    ∷ Rejected (take 23 plain) 1
    ∷ Rejected (take 23 (set plain 0 0)) 1
    ∷ Rejected (header 1 0 4225 one) 2
    ∷ Rejected (header 1 0 4224 one) 1
    -- one byte more and one less than 24 + 8m; the header comes before the total length, and that before the records
    ∷ Rejected (plain ++ 0 ∷ []) 1
    ∷ Rejected (chain 2 ++ 0 ∷ []) 1
    ∷ Rejected (take 39 (chain 2)) 1
    ∷ Rejected (set plain 0 0 ++ 0 ∷ []) 2
    ∷ Rejected (chain 3 ++ 0 ∷ []) 1
    -- n
    ∷ Rejected (header 0 0 0 (replicate 12 0)) 2
    ∷ Rejected (header 13 0 0 eights) 2
    -- edition
    ∷ Rejected (set plain 1 0) 2
    ∷ Rejected (set plain 1 3) 2
    -- first index above m, by its low byte and by its high byte
    ∷ Rejected (set plain 2 1) 2
    ∷ Rejected (set (chain 2) 2 3) 2
    ∷ Rejected (set (chain 2) 3 1) 2
    -- slot counts: 0 and 9 within n, 1 beyond n
    ∷ Rejected (set (chain 2) 8 0) 2
    ∷ Rejected (set (chain 2) 9 9) 2
    ∷ Rejected (set (chain 2) 10 1) 2
    ∷ Rejected (set (chain 2) 19 1) 2
    -- bytes that must be zero
    ∷ Rejected (set plain 6 1) 2
    ∷ Rejected (set plain 7 1) 2
    ∷ Rejected (set plain 20 1) 2
    ∷ Rejected (set plain 21 1) 2
    ∷ Rejected (set plain 22 1) 2
    ∷ Rejected (set plain 23 1) 2
    -- where its scanners are not 1 ≤ lower < higher ≤ n
    ∷ Rejected (single (row 0 2 2 1 0)) 3
    ∷ Rejected (single (row 2 2 2 1 0)) 3
    ∷ Rejected (single (row 2 1 2 1 0)) 3
    ∷ Rejected (single (row 1 3 2 1 0)) 3
    -- a slot not owned
    ∷ Rejected (single (row 1 2 0 1 0)) 3
    ∷ Rejected (single (row 1 2 3 1 0)) 3
    ∷ Rejected (single (row 1 2 2 0 0)) 3
    ∷ Rejected (single (row 1 2 2 3 0)) 3
    -- next above m, by its high byte; last bytes not zero
    ∷ Rejected (single (row 1 2 2 1 256)) 3
    ∷ Rejected (set (single (row 1 2 2 1 0)) 30 1) 3
    ∷ Rejected (set (single (row 1 2 2 1 0)) 31 1) 3
    -- the chain comes back to the record that it left, and to the one before; a bad record that leads back is bad first
    ∷ Rejected (single (row 1 2 2 1 1)) 4
    ∷ Rejected (header 2 1 2 twos ++ row 1 2 1 1 2 ++ row 1 2 2 2 1) 4
    ∷ Rejected (header 2 1 2 twos ++ row 1 2 1 1 2 ++ row 1 2 2 3 1) 3
    ∷ []

unfoldable pub readings : List Case
readings =
    -- P9's sheet
    Reads
    (header 3 1 2 (2 ∷ 1 ∷ 2 ∷ replicate 9 0) ++ row 1 3 1 1 2 ++ row 2 3 1 2 0)
    3
    (2 ∷ 1 ∷ 2 ∷ replicate 9 0)
    (ban 1 1 3 1 ∷ ban 2 1 3 2 ∷ [])
    -- "with next 2 it is good"
    ∷ Reads (chain 2) 2 twos (ban 1 1 2 1 ∷ ban 1 2 2 2 ∷ [])
    -- a chain out of order, and one that passes a spare record
    ∷ Same (header 2 2 2 twos ++ row 1 2 2 2 0 ++ row 1 2 1 1 1) (chain 2)
    ∷ Same (header 2 1 3 twos ++ row 1 2 1 1 3 ++ garbage ++ row 1 2 2 2 0) (chain 2)
    -- "The same ban twice on the chain counts once."
    ∷ Reads (single (row 1 2 2 1 0)) 2 twos (ban 1 2 2 1 ∷ [])
    ∷ Same (header 2 1 2 twos ++ row 1 2 2 1 2 ++ row 1 2 2 1 0) (single (row 1 2 2 1 0))
    -- no chain: no record is looked at
    ∷ Reads plain 1 one []
    ∷ Reads (header 2 0 1 twos ++ garbage) 2 twos []
    -- the last slots of the last pair
    ∷ Reads (header 12 1 1 eights ++ row 11 12 8 8 0) 12 eights (ban 11 8 12 8 ∷ [])
    ∷ []

-- ---- edition 2

unfoldable pub gap_rejections : List Case
gap_rejections =
    -- "each from -7 to 7": -8 and 8 for the least and the greatest, and the ends of a signed byte
    Rejected (far (gap_row 1 2 (minus 8) 0 0)) 3
    ∷ Rejected (far (gap_row 1 2 8 8 0)) 3
    ∷ Rejected (far (gap_row 1 2 0 8 0)) 3
    ∷ Rejected (far (gap_row 1 2 (minus 8) (minus 8) 0)) 3
    ∷ Rejected (far (gap_row 1 2 (minus 128) 0 0)) 3
    ∷ Rejected (far (gap_row 1 2 0 127 0)) 3
    -- least above greatest, both in range; -1 is not above 0
    ∷ Rejected (far (gap_row 1 2 1 0 0)) 3
    ∷ Rejected (far (gap_row 1 2 0 (minus 1) 0)) 3
    ∷ Rejected (far (gap_row 1 2 7 (minus 7) 0)) 3
    -- the field faults of before: scanners, next, last bytes
    ∷ Rejected (far (gap_row 0 2 0 0 0)) 3
    ∷ Rejected (far (gap_row 2 2 0 0 0)) 3
    ∷ Rejected (far (gap_row 2 1 0 0 0)) 3
    ∷ Rejected (far (gap_row 1 3 0 0 0)) 3
    ∷ Rejected (far (gap_row 1 2 0 0 2)) 3
    ∷ Rejected (set (far (gap_row 1 2 0 0 0)) 30 1) 3
    ∷ Rejected (set (far (gap_row 1 2 0 0 0)) 31 1) 3
    -- a record that hits nothing has its fields tested too
    ∷ Rejected (far (gap_row 1 2 7 8 0)) 3
    -- the chain comes back; a bad record that leads back is bad first
    ∷ Rejected (far (gap_row 1 2 0 0 1)) 4
    ∷ Rejected (gap_header 2 1 2 two_three ++ gap_row 1 2 0 0 2 ++ gap_row 1 2 7 7 1) 4
    ∷ Rejected (gap_header 2 1 2 two_three ++ gap_row 1 2 0 0 2 ++ gap_row 1 2 1 0 1) 3
    -- lengths, m and the header as before
    ∷ Rejected (far (gap_row 1 2 0 0 0) ++ 0 ∷ []) 1
    ∷ Rejected (take 31 (far (gap_row 1 2 0 0 0))) 1
    ∷ Rejected (gap_header 1 0 4225 one) 2
    ∷ Rejected (set (far (gap_row 1 2 0 0 0)) 2 2) 2
    -- what an edition takes for good the other may refuse: slots 2 and 1, and gap 0 to gap 0
    ∷ Rejected (set (single (row 1 2 2 1 0)) 1 2) 3
    ∷ Rejected (set (far (gap_row 1 2 0 0 0)) 1 1) 3
    ∷ []

unfoldable pub gap_readings : List Case
gap_readings =
    -- least and greatest the same: higher's slot minus lower's is 1, and is -1
    Reads (far (gap_row 1 2 1 1 0)) 2 two_three (ban 1 1 2 2 ∷ ban 1 2 2 3 ∷ [])
    ∷ Reads (far (gap_row 1 2 (minus 1) (minus 1) 0)) 2 two_three (ban 1 2 2 1 ∷ [])
    -- both ends are included: from -1 to 1, and from 0 to 2
    ∷ Reads
    (far (gap_row 1 2 (minus 1) 1 0))
    2
    two_three
    (ban 1 1 2 1 ∷ ban 1 1 2 2 ∷ ban 1 2 2 1 ∷ ban 1 2 2 2 ∷ ban 1 2 2 3 ∷ [])
    ∷ Reads (far (gap_row 1 2 0 2 0)) 2 two_three (ban 1 1 2 1 ∷ ban 1 1 2 2 ∷ ban 1 1 2 3 ∷ ban 1 2 2 2 ∷ ban 1 2 2 3 ∷ [])
    -- the whole range is every pair; its ends, each alone, are the corners of eight slots by eight
    ∷ Same
    (far (gap_row 1 2 (minus 7) 7 0))
    (header 2 1 6 two_three
    ++ row 1 2 1 1 2 ++ row 1 2 1 2 3 ++ row 1 2 1 3 4 ++ row 1 2 2 1 5 ++ row 1 2 2 2 6 ++ row 1 2 2 3 0)
    ∷ Reads (gap_header 12 1 1 eights ++ gap_row 11 12 7 7 0) 12 eights (ban 11 1 12 8 ∷ [])
    ∷ Reads (gap_header 12 1 1 eights ++ gap_row 1 2 (minus 7) (minus 7) 0) 12 eights (ban 1 8 2 1 ∷ [])
    -- "A record that hits no pair of owned slots bans nothing, makes no link."
    ∷ Reads (far (gap_row 1 2 3 7 0)) 2 two_three []
    ∷ Unlinked (far (gap_row 1 2 3 7 0)) 1 2
    ∷ Unlinked (far (gap_row 1 2 (minus 7) (minus 2) 0)) 1 2
    ∷ Same (far (gap_row 1 2 3 7 0)) (gap_header 2 0 0 two_three)
    -- the same pairs banned by two records count once, beside a record that hits nothing
    ∷ Same
    (gap_header 2 1 3 two_three ++ gap_row 1 2 (minus 1) 0 2 ++ gap_row 1 2 0 1 3 ++ gap_row 1 2 5 5 0)
    (far (gap_row 1 2 (minus 1) 1 0))
    -- a chain out of order, and one that passes a spare record
    ∷ Same (gap_header 2 2 2 two_three ++ gap_row 1 2 1 1 0 ++ gap_row 1 2 (minus 1) 0 1) (far (gap_row 1 2 (minus 1) 1 0))
    ∷ Same (gap_header 2 1 3 two_three ++ gap_row 1 2 1 1 3 ++ garbage ++ gap_row 1 2 (minus 1) 0 0) (far (gap_row 1 2 (minus 1) 1 0))
    ∷ Reads (gap_header 2 0 1 two_three ++ garbage) 2 two_three []
    -- no records
    ∷ Reads (set plain 1 2) 1 one []
    -- the same bans in edition 1
    ∷ Same (far (gap_row 1 2 1 1 0)) (header 2 1 2 two_three ++ row 1 2 1 2 2 ++ row 1 2 2 3 0)
    ∷ []

unfoldable pub cases : List Case
cases = rejections ++ readings ++ gap_rejections ++ gap_readings
