-- Worked cases of turning, each worked out from docs/FORMATS.md, 'Turning one edition into the other' and 'The sheet', and docs/PROGRAMS.md, 'turn'.
use Rattle.std.specs.Prelude.{ℕ, Bool, false, List, [], ◌∷◌, ◌++◌, set, take, replicate, eqb}
use Rattle.model_base.specs.Lent.{Written}
use Rattle.model_base.specs.Same.{same_numbers, same_written}
use Rattle.model_sheet.specs.Cases.{header, row, gap_header, gap_row, minus, garbage, one, twos, two_three}
use Rattle.model_editions.specs.Turning.{Turned, Made, Refused, ban_sheet, gap_sheet, to_bans, to_gaps}

-- ---- what a case says of a sheet

pub data Case : Type 0 where
  Bans : List ℕ → List ℕ → Case  -- this sheet of edition 2 has this ban sheet
  Gaps : List ℕ → List ℕ → Case  -- this sheet of edition 1 has this gap sheet
  NoBans : List ℕ → ℕ → Case  -- refused with this number, where a ban sheet is asked for
  NoGaps : List ℕ → ℕ → Case  -- and where a gap sheet is

unfoldable pub made_as : List ℕ → Turned → Bool
made_as bytes (Made t) = same_numbers t bytes
made_as bytes (Refused k) = false

unfoldable pub refused_with : ℕ → Turned → Bool
refused_with number (Made t) = false
refused_with number (Refused k) = eqb k number

unfoldable pub case_holds : Case → Bool
case_holds (Bans s t) = made_as t (ban_sheet s)
case_holds (Gaps s t) = made_as t (gap_sheet s)
case_holds (NoBans s number) = refused_with number (ban_sheet s)
case_holds (NoGaps s number) = refused_with number (gap_sheet s)

-- ---- slot counts

unfoldable pub threes : List ℕ
threes = 3 ∷ 3 ∷ replicate 10 0

unfoldable pub two_one_two : List ℕ
two_one_two = 2 ∷ 1 ∷ 2 ∷ replicate 9 0

-- four agents with one slot each: every gap is 0
unfoldable pub ones : List ℕ
ones = replicate 4 1 ++ replicate 8 0

-- ---- sheets and what they are turned into

-- gaps 0 of all six pairs of four agents, and their bans: 1 with 4 comes before 2 with 3
unfoldable pub six_gaps : List ℕ
six_gaps =
    gap_header 4 1 6 ones
    ++ gap_row 1 2 0 0 2 ++ gap_row 1 3 0 0 3 ++ gap_row 1 4 0 0 4 ++ gap_row 2 3 0 0 5 ++ gap_row 2 4 0 0 6 ++ gap_row 3 4 0 0 0

unfoldable pub six_bans : List ℕ
six_bans =
    header 4 1 6 ones
    ++ row 1 2 1 1 2 ++ row 1 3 1 1 3 ++ row 1 4 1 1 4 ++ row 2 3 1 1 5 ++ row 2 4 1 1 6 ++ row 3 4 1 1 0

-- three slots each, every gap but 0: two runs, and six pairs
unfoldable pub broken_gaps : List ℕ
broken_gaps = gap_header 2 1 2 threes ++ gap_row 1 2 (minus 2) (minus 1) 2 ++ gap_row 1 2 1 2 0

unfoldable pub broken_bans : List ℕ
broken_bans =
    header 2 1 6 threes
    ++ row 1 2 1 2 2 ++ row 1 2 1 3 3 ++ row 1 2 2 1 4 ++ row 1 2 2 3 5 ++ row 1 2 3 1 6 ++ row 1 2 3 2 0

-- two and three slots, gaps -1 and 0
unfoldable pub low_gaps : List ℕ
low_gaps = gap_header 2 1 1 two_three ++ gap_row 1 2 (minus 1) 0 0

unfoldable pub low_bans : List ℕ
low_bans = header 2 1 3 two_three ++ row 1 2 1 1 2 ++ row 1 2 2 1 3 ++ row 1 2 2 2 0

-- one pair of slots, the only one with its gap
unfoldable pub corner_gaps : List ℕ
corner_gaps = gap_header 2 1 1 threes ++ gap_row 1 2 2 2 0

unfoldable pub corner_bans : List ℕ
corner_bans = header 2 1 1 threes ++ row 1 2 1 3 0

-- two agents with two slots each, nothing banned
unfoldable pub empty_bans : List ℕ
empty_bans = header 2 0 0 twos

unfoldable pub empty_gaps : List ℕ
empty_gaps = gap_header 2 0 0 twos

-- agents 1 and 3 alone have bans, at gaps -1 and 1
unfoldable pub apart_bans : List ℕ
apart_bans = header 3 1 2 two_one_two ++ row 1 3 1 2 2 ++ row 1 3 2 1 0

unfoldable pub apart_gaps : List ℕ
apart_gaps = gap_header 3 1 2 two_one_two ++ gap_row 1 3 (minus 1) (minus 1) 2 ++ gap_row 1 3 1 1 0

-- 1:1 with 2:1 banned, and 1:2 with 2:2, of the same gap, free
unfoldable pub mixed_bans : List ℕ
mixed_bans = header 2 1 1 twos ++ row 1 2 1 1 0

unfoldable pub turned : List Case
turned =
    -- "upward by lower scanner, higher scanner"
    Bans six_gaps six_bans
    ∷ Gaps six_bans six_gaps
    -- "lower slot, higher slot", and a run broken by a free gap
    ∷ Bans broken_gaps broken_bans
    ∷ Gaps broken_bans broken_gaps
    ∷ Bans low_gaps low_bans
    ∷ Gaps low_bans low_gaps
    -- "taken as long as it goes": gaps said apart, in a chain out of order
    ∷ Bans (gap_header 2 2 2 two_three ++ gap_row 1 2 0 0 0 ++ gap_row 1 2 (minus 1) (minus 1) 1) low_bans
    -- "a run ends at the latest where the owned gaps end": gaps 2 to 7 come back as 2 to 2, and -7 to 0 as -1 to 0
    ∷ Bans (gap_header 2 1 1 threes ++ gap_row 1 2 2 7 0) corner_bans
    ∷ Gaps corner_bans corner_gaps
    ∷ Bans (gap_header 2 1 1 two_three ++ gap_row 1 2 (minus 7) 0 0) low_bans
    -- agents with no bans between them have no records
    ∷ Gaps apart_bans apart_gaps
    ∷ Bans apart_gaps apart_bans
    -- "where nothing is banned there are no records and the first index is 0": no records, a record that hits nothing, a spare one
    ∷ Gaps empty_bans empty_gaps
    ∷ Bans empty_gaps empty_bans
    ∷ Bans (gap_header 2 1 1 twos ++ gap_row 1 2 2 7 0) empty_bans
    ∷ Gaps (header 2 0 1 twos ++ garbage) empty_gaps
    ∷ Bans (gap_header 2 0 1 twos ++ garbage) empty_bans
    -- one agent
    ∷ Gaps (header 1 0 0 one) (gap_header 1 0 0 one)
    -- the same ban twice, a spare record between, the chain out of order
    ∷ Gaps
    (header 2 5 5 two_three ++ row 1 2 2 2 0 ++ garbage ++ row 1 2 1 1 4 ++ row 1 2 2 1 1 ++ row 1 2 1 1 3)
    low_gaps
    ∷ Bans (gap_header 2 3 3 two_three ++ gap_row 1 2 (minus 1) 0 0 ++ garbage ++ gap_row 1 2 0 0 1) low_bans
    ∷ []

unfoldable pub refusals : List Case
refusals =
    -- "a sheet of the other edition .. is refused with 2": a good one, and one whose total length is wrong; one of no edition
    NoBans low_bans 2
    ∷ NoGaps low_gaps 2
    ∷ NoBans (low_bans ++ 0 ∷ []) 2
    ∷ NoGaps (take 31 low_gaps) 2
    ∷ NoBans (set low_gaps 1 3) 2
    ∷ NoGaps (set low_bans 1 0) 2
    -- a length under 24 comes before the edition
    ∷ NoBans (take 23 empty_bans) 1
    ∷ NoGaps (take 23 empty_gaps) 1
    ∷ NoGaps [] 1
    -- "1 to 4 come first, as for any sheet"
    ∷ NoBans (low_gaps ++ 0 ∷ []) 1
    ∷ NoBans (set low_gaps 0 0) 2
    ∷ NoBans (gap_header 2 1 1 two_three ++ gap_row 1 2 1 0 0) 3
    ∷ NoBans (gap_header 2 1 1 two_three ++ gap_row 1 2 0 0 1) 4
    ∷ NoGaps (mixed_bans ++ 0 ∷ []) 1
    ∷ NoGaps (set mixed_bans 20 1) 2
    ∷ NoGaps (header 2 1 2 twos ++ row 1 2 1 1 2 ++ row 1 2 1 3 0) 3
    ∷ NoGaps (header 2 1 2 twos ++ row 1 2 1 1 2 ++ row 1 2 1 1 1) 4
    -- "two owned pairs of slots with equal gap, one banned and one free"; the last two of three agents; the other slot of the gap
    ∷ NoGaps mixed_bans 15
    ∷ NoGaps (header 2 1 1 twos ++ row 1 2 2 2 0) 15
    ∷ NoGaps (header 3 1 1 (1 ∷ 2 ∷ 2 ∷ replicate 9 0) ++ row 2 3 1 1 0) 15
    ∷ NoGaps (header 2 1 2 threes ++ row 1 2 1 1 2 ++ row 1 2 3 3 0) 15
    ∷ []

unfoldable pub cases : List Case
cases = turned ++ refusals

-- ---- buffers

pub record Put : Type 0 where
  pub result : Written
  pub answer : Written

unfoldable pub put_holds : Put → Bool
put_holds c = same_written c.result c.answer

-- so many bytes that no sheet has
unfoldable pub sevens : ℕ → List ℕ
sevens n = replicate n 77

unfoldable pub rejection : ℕ → ℕ → Written
rejection size number = record { number = number; length = 0; buffer = sevens size }

unfoldable pub puts : List Put
puts =
    -- a buffer of the sheet's length, and a longer one; one byte short, and none at all
    record { result = to_gaps low_bans (sevens 32); answer = record { number = 0; length = 32; buffer = low_gaps } }
    ∷ record { result = to_gaps low_bans (sevens 35); answer = record { number = 0; length = 32; buffer = low_gaps ++ sevens 3 } }
    ∷ record { result = to_gaps low_bans (sevens 31); answer = rejection 31 12 }
    ∷ record { result = to_bans low_gaps (sevens 50); answer = record { number = 0; length = 48; buffer = low_bans ++ sevens 2 } }
    ∷ record { result = to_bans low_gaps (sevens 47); answer = rejection 47 12 }
    ∷ record { result = to_bans empty_gaps []; answer = rejection 0 12 }
    -- 15 before 12; 1 to 4 before both
    ∷ record { result = to_gaps mixed_bans (sevens 60); answer = rejection 60 15 }
    ∷ record { result = to_gaps mixed_bans (sevens 23); answer = rejection 23 15 }
    ∷ record { result = to_gaps low_gaps (sevens 3); answer = rejection 3 2 }
    ∷ record { result = to_bans low_bans []; answer = rejection 0 2 }
    ∷ []
