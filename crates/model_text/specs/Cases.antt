-- Worked texts and sheets, each worked out from docs/FORMATS.md, 'Sheets as text' and 'The sheet'.
use Rattle.std.specs.Prelude.{ℕ, pred, ◌≡◌, true, List, [], ◌∷◌, ◌++◌, map, take, set, replicate}
use Prim.Native.Char.{code}
use Prim.Native.String.{String, [] as empty, ◌∷◌ as ◌then◌}
use Rattle.model_sheet.specs.Sheet.{max_records}
use Rattle.model_sheet.specs.Cases.{header, row, gap_header, gap_row, minus, garbage, twos, eights, two_three, plain}
use Rattle.model_text.specs.Statements.{Ban}
use Rattle.model_text.specs.Drafts.{LineRejection, NotStatement, SlotsFirst, SlotsTwice, AgentCount, DomainSize, BothKinds, NoAgent, SameAgent, HigherFirst, NotOwned, GapRange, LeastAbove, ManyRecords, LongText, Draft, no_draft, with_slots, ban_record, Taken, Next, Wrong, with_statement}
use Rattle.model_text.specs.Reading.{Outcome, Made, RejectedLine, read_from, sheet_of}
use Rattle.model_text.specs.Telling.{Told, Text, Refused, text_of}
use Rattle.model_text.specs.Faults.{rejection_text}
use Rattle.model_text.specs.Printing.{Printed, sheet_printed, text_printed}

-- a text in quotes, as bytes
unfoldable pub bytes : String → List ℕ
bytes empty = []
bytes (c then s) = code c ∷ bytes s

-- ---- texts into sheets

pub data Case : Type 0 where
  Gives : String → List ℕ → Case  -- this text gives this sheet
  Stops : String → ℕ → LineRejection → Case  -- it has this fault on this line
  Breaks : String → ℕ → LineRejection → Case  -- so has a text that begins like this, and goes on behind the bytes that it may have

unfoldable pub outcome_of : Case → Outcome
outcome_of (Gives text sheet) = sheet_of (bytes text)
outcome_of (Stops text n fault) = sheet_of (bytes text)
outcome_of (Breaks text n fault) = read_from true 1 no_draft (bytes text)

unfoldable pub expected_of : Case → Outcome
expected_of (Gives text sheet) = Made sheet
expected_of (Stops text n fault) = RejectedLine n fault
expected_of (Breaks text n fault) = RejectedLine n fault

unfoldable pub sheets : List Case
sheets =
    Gives "slots 2 2\nban 1:1 2:1\n" (header 2 1 1 twos ++ row 1 2 1 1 0)
    -- "either scanner first": the slots go with their scanners
    ∷ Gives "slots 2 3\nban 2:3 1:1\n" (header 2 1 1 two_three ++ row 1 2 1 3 0)
    ∷ Gives "slots 2 3\nban 1:2 2:3\nban 2:1 1:2\n" (header 2 1 2 two_three ++ row 1 2 2 3 2 ++ row 1 2 2 1 0)
    -- edition 2, with signs
    ∷ Gives "slots 2 3\ngap 1 2 -1 0\n" (gap_header 2 1 1 two_three ++ gap_row 1 2 (minus 1) 0 0)
    ∷ Gives "slots 2 3\ngap 1 2 -7 -7\ngap 1 2 7 7\n" (gap_header 2 1 2 two_three ++ gap_row 1 2 (minus 7) (minus 7) 2 ++ gap_row 1 2 7 7 0)
    ∷ Gives "slots 2 3\ngap 1 2 -0 0\ngap 1 2 0 -0\n" (gap_header 2 1 2 two_three ++ gap_row 1 2 0 0 2 ++ gap_row 1 2 0 0 0)
    -- no records: edition 1
    ∷ Gives "slots 1\n" plain
    ∷ Gives "slots 2 3\n" (header 2 0 0 two_three)
    -- "Records stand in the order of the lines", the same ban twice too
    ∷ Gives "slots 2 2\nban 1:2 2:2\nban 1:1 2:1\nban 2:2 1:2\n" (header 2 1 3 twos ++ row 1 2 2 2 2 ++ row 1 2 1 1 3 ++ row 1 2 2 2 0)
    -- the last slots of the last pair
    ∷ Gives "slots 8 8 8 8 8 8 8 8 8 8 8 8\nban 12:8 11:8\n" (header 12 1 1 eights ++ row 11 12 8 8 0)
    -- no newline at the end
    ∷ Gives "slots 1" plain
    ∷ Gives "slots 2 2\nban 1:1 2:1" (header 2 1 1 twos ++ row 1 2 1 1 0)
    -- comments, empty lines, blanks and tabs, carriage returns; the last line has one without a newline
    ∷ Gives
    "# a rail\r\n\r\n \t\r\n\tslots\t2  2 # two\r\n  ban 1:1\t2:1#ban\r\n#ban 1:9\nban 1:2 2:2 \r"
    (header 2 1 2 twos ++ row 1 2 1 1 2 ++ row 1 2 2 2 0)
    ∷ Gives "slots 1#" plain
    ∷ Gives "slots 1 # \r here it does no harm" plain
    -- leading zeros, more digits than 64 bits have
    ∷ Gives
    "slots 02 000000000000000000000000000003\nban 01:002 2:03\n"
    (header 2 1 1 two_three ++ row 1 2 2 3 0)
    ∷ Gives "slots 2 3\ngap 01 02 -007 00\n" (gap_header 2 1 1 two_three ++ gap_row 1 2 (minus 7) 0 0)
    ∷ []

unfoldable pub unclear : List Case
unclear =
    -- the first word
    Stops "slots 2 2\nbans 1:1 2:1\n" 2 NotStatement
    ∷ Stops "Slots 2 2\n" 1 NotStatement
    ∷ Stops "slots2 2\n" 1 NotStatement
    ∷ Stops "slot\n" 1 NotStatement
    ∷ Stops "2 2\n" 1 NotStatement
    -- too few words, and too many
    ∷ Stops "slots 2 2\nban 1:1\n" 2 NotStatement
    ∷ Stops "slots 2 2\nban\n" 2 NotStatement
    ∷ Stops "slots 2 2\nban 1:1 2:1 2:2\n" 2 NotStatement
    ∷ Stops "slots 2 2\ngap 1 2 0\n" 2 NotStatement
    ∷ Stops "slots 2 2\ngap 1 2 0 0 0\n" 2 NotStatement
    -- a word that is not as its place wants it
    ∷ Stops "slots 2 x\n" 1 NotStatement
    ∷ Stops "slots 2,2\n" 1 NotStatement
    ∷ Stops "slots 2 -2\n" 1 NotStatement
    ∷ Stops "slots 2 2\nban 1 2\n" 2 NotStatement
    ∷ Stops "slots 2 2\nban 1: 2:1\n" 2 NotStatement
    ∷ Stops "slots 2 2\nban :1 2:1\n" 2 NotStatement
    ∷ Stops "slots 2 2\nban 1:1: 2:1\n" 2 NotStatement
    ∷ Stops "slots 2 2\nban 1:1:1 2:1\n" 2 NotStatement
    ∷ Stops "slots 2 2\nban 1 :1 2:1\n" 2 NotStatement
    ∷ Stops "slots 2 2\nban 1:1 2:-1\n" 2 NotStatement
    ∷ Stops "slots 2 2\ngap 1:1 2:1 0 0\n" 2 NotStatement
    ∷ Stops "slots 2 2\ngap -1 2 0 0\n" 2 NotStatement
    ∷ Stops "slots 2 2\ngap 1 -2 0 0\n" 2 NotStatement
    ∷ Stops "slots 2 2\ngap 1 2 --1 0\n" 2 NotStatement
    ∷ Stops "slots 2 2\ngap 1 2 - 0\n" 2 NotStatement
    ∷ Stops "slots 2 2\ngap 1 2 0 1-\n" 2 NotStatement
    ∷ Stops "slots 2 2\ngap 1 2 +1 1\n" 2 NotStatement
    -- "A carriage return anywhere else is part of a word": a second one, one before a comment, one between words
    ∷ Stops "slots 2 2\r\r\n" 1 NotStatement
    ∷ Stops "slots 2 2\r# two\n" 1 NotStatement
    ∷ Stops "slots\r2\n" 1 NotStatement
    ∷ Stops "slots 2 2\n\r\r\n" 2 NotStatement
    -- any other byte too
    ∷ Stops "slots 2\u{b}2\n" 1 NotStatement
    ∷ Stops "slots 2\0\n" 1 NotStatement
    ∷ Stops "ÿþ\n" 1 NotStatement
    -- one that is too long for 64 bits, and the longest that is not
    ∷ Stops "slots 18446744073709551616\n" 1 NotStatement
    ∷ Stops "slots 18446744073709551615\n" 1 DomainSize
    ∷ Stops "slots 2 2\nban 18446744073709551616:1 2:1\n" 2 NotStatement
    ∷ Stops "slots 2 2\nban 18446744073709551615:1 2:1\n" 2 (NoAgent 18446744073709551615)
    ∷ Stops "slots 2 2\nban 1:1 2:18446744073709551616\n" 2 NotStatement
    ∷ Stops "slots 2 2\nban 1:1 2:18446744073709551615\n" 2 (NotOwned 2 18446744073709551615)
    ∷ Stops "slots 2 2\ngap 1 2 -18446744073709551616 0\n" 2 NotStatement
    ∷ Stops "slots 2 2\ngap 1 2 -18446744073709551615 0\n" 2 GapRange
    ∷ []

unfoldable pub faults : List Case
faults =
    -- no slots before it
    Stops "ban 1:1 2:1\nslots 2 2\n" 1 SlotsFirst
    ∷ Stops "# first\ngap 1 1 9 -9\n" 2 SlotsFirst
    -- "at the number of its lines and one"
    ∷ Stops "" 1 SlotsFirst
    ∷ Stops "\n" 2 SlotsFirst
    ∷ Stops "\n# nothing\n" 3 SlotsFirst
    ∷ Stops "\n# nothing" 3 SlotsFirst
    ∷ Stops "\n\n " 4 SlotsFirst
    ∷ Stops "\r" 2 SlotsFirst
    -- twice, before its numbers are looked at
    ∷ Stops "slots 2 2\n\nslots 2 2\n" 3 SlotsTwice
    ∷ Stops "slots 2 2\nslots\n" 2 SlotsTwice
    ∷ Stops "slots 2 2\nslots 9\n" 2 SlotsTwice
    ∷ Stops "slots 2 2\nslots x\n" 2 NotStatement
    -- how many, before how large
    ∷ Stops "slots\n" 1 AgentCount
    ∷ Stops "slots 1 1 1 1 1 1 1 1 1 1 1 1 1\n" 1 AgentCount
    ∷ Stops "slots 1 1 1 1 1 1 1 1 1 1 1 1 9\n" 1 AgentCount
    ∷ Stops "slots 0\n" 1 DomainSize
    ∷ Stops "slots 8 9\n" 1 DomainSize
    -- both kinds, before the rest of the line
    ∷ Stops "slots 2 2\nban 1:1 2:1\ngap 1 2 0 0\n" 3 BothKinds
    ∷ Stops "slots 2 2\ngap 1 2 0 0\nban 1:1 2:1\n" 3 BothKinds
    ∷ Stops "slots 2 2\nban 1:1 2:1\ngap 3 3 9 -9\n" 3 BothKinds
    ∷ Stops "slots 2 2\ngap 1 2 0 0\nban 3:9 3:9\n" 3 BothKinds
    -- a scanner that is not there: the first named first, before the same twice and before slots and gaps
    ∷ Stops "slots 2 2\nban 3:1 1:1\n" 2 (NoAgent 3)
    ∷ Stops "slots 2 2\nban 1:9 0:1\n" 2 (NoAgent 0)
    ∷ Stops "slots 2 2\nban 4:1 03:1\n" 2 (NoAgent 4)
    ∷ Stops "slots 2 2\nban 3:1 3:1\n" 2 (NoAgent 3)
    ∷ Stops "slots 2 2\ngap 2 0013 9 -9\n" 2 (NoAgent 13)
    -- the same twice, before slots and gaps
    ∷ Stops "slots 2 2\nban 1:1 1:2\n" 2 SameAgent
    ∷ Stops "slots 2 2\nban 1:9 1:9\n" 2 SameAgent
    ∷ Stops "slots 2 2\ngap 2 2 9 -9\n" 2 SameAgent
    -- a gap's lower scanner
    ∷ Stops "slots 2 2\ngap 2 1 0 0\n" 2 HigherFirst
    ∷ Stops "slots 2 2\ngap 2 1 9 -9\n" 2 HigherFirst
    -- slots that are not there, in the order of the line
    ∷ Stops "slots 2 3\nban 1:3 2:3\n" 2 (NotOwned 1 3)
    ∷ Stops "slots 2 3\nban 2:3 1:0\n" 2 (NotOwned 1 0)
    ∷ Stops "slots 2 3\nban 2:04 1:3\n" 2 (NotOwned 2 4)
    -- gaps
    ∷ Stops "slots 2 2\ngap 1 2 -8 0\n" 2 GapRange
    ∷ Stops "slots 2 2\ngap 1 2 0 8\n" 2 GapRange
    ∷ Stops "slots 2 2\ngap 1 2 8 -8\n" 2 GapRange
    ∷ Stops "slots 2 2\ngap 1 2 1 0\n" 2 LeastAbove
    ∷ Stops "slots 2 2\ngap 1 2 0 -1\n" 2 LeastAbove
    ∷ Stops "slots 2 2\ngap 1 2 -6 -7\n" 2 LeastAbove
    -- "The first faulty line decides", though a later one has a fault that comes earlier in the list
    ∷ Stops "slots 2 2\nban 1:1 2:3\nnonsense\n" 2 (NotOwned 2 3)
    ∷ Stops "nonsense\nnonsense\n" 1 NotStatement
    ∷ []

-- "only the lines that end before the first byte too many are judged"
unfoldable pub broken : List Case
broken =
    Breaks "slots 2 2\nban 1:1 2:1\nban 9:9" 3 LongText
    ∷ Breaks "slots 2 2\n" 2 LongText
    ∷ Breaks "slots 2 2" 1 LongText
    ∷ Breaks "nonsense" 1 LongText
    ∷ Breaks "\n#" 2 LongText
    ∷ Breaks "slots 2 2\nban 1:1 1:1\nban 1" 2 SameAgent
    ∷ Breaks "slots 2 2\nban 1:1 1:1\n" 2 SameAgent
    ∷ []

unfoldable pub cases : List Case
cases = sheets ++ unclear ++ faults ++ broken

abbrev pub TextsRead : Type 0
TextsRead = map outcome_of cases ≡ map expected_of cases

-- ---- as many records as a sheet can have

-- two agents with two values each, and so many times the same ban
unfoldable pub drafted : ℕ → Draft
drafted m =
    record { problem = (with_slots no_draft (2 ∷ 2 ∷ [])).problem; edition = 1; rows = replicate m (ban_record 1 1 2 1) }

unfoldable pub fullest : List Taken
fullest =
    with_statement (drafted (pred max_records)) (Ban 1 1 2 1)
    ∷ with_statement (drafted max_records) (Ban 1 1 2 1)
    -- the last fault in the order
    ∷ with_statement (drafted max_records) (Ban 1 1 2 3)
    ∷ []

abbrev pub RecordsEnd : Type 0
RecordsEnd = fullest ≡ Next (drafted max_records) ∷ Wrong ManyRecords ∷ Wrong (NotOwned 2 3) ∷ []

-- ---- what is said of a fault

abbrev pub FaultsSaid : Type 0
FaultsSaid =
    (rejection_text 1 NotStatement ≡ bytes "line 1: not a statement\n")
    × (rejection_text 2 SlotsFirst ≡ bytes "line 2: slots must come first\n")
    × (rejection_text 13 SlotsTwice ≡ bytes "line 13: slots twice\n")
    × (rejection_text 1 AgentCount ≡ bytes "line 1: 1 to 12 scanners\n")
    × (rejection_text 1 DomainSize ≡ bytes "line 1: a slot count is 1 to 8\n")
    × (rejection_text 4225 BothKinds ≡ bytes "line 4225: bans and gaps in one text\n")
    × (rejection_text 2 (NoAgent 0) ≡ bytes "line 2: no scanner 0\n")
    × (rejection_text 2 SameAgent ≡ bytes "line 2: the same scanner twice\n")
    × (rejection_text 2 HigherFirst ≡ bytes "line 2: the lower-numbered scanner comes first\n")
    × (rejection_text 2 (NotOwned 12 9) ≡ bytes "line 2: scanner 12 has no slot 9\n")
    × (rejection_text 2 GapRange ≡ bytes "line 2: a gap is -7 to 7\n")
    × (rejection_text 2 LeastAbove ≡ bytes "line 2: least is above greatest\n")
    × (rejection_text 4226 ManyRecords ≡ bytes "line 4226: more than 4224 records\n")
    × (rejection_text 100000 LongText ≡ bytes "line 100000: text too long\n")

-- ---- sheets into texts

pub data Telling : Type 0 where
  Tells : List ℕ → String → Telling  -- this sheet has this text
  Fails : List ℕ → ℕ → Telling  -- it is refused with this number

unfoldable pub told_of : Telling → Told
told_of (Tells sheet text) = text_of sheet
told_of (Fails sheet number) = text_of sheet

unfoldable pub due_of : Telling → Told
due_of (Tells sheet text) = Text (bytes text)
due_of (Fails sheet number) = Refused number

unfoldable pub tellings : List Telling
tellings =
    Tells plain "slots 1\n"
    ∷ Tells (header 2 1 1 twos ++ row 1 2 2 1 0) "slots 2 2\nban 1:2 2:1\n"
    -- "a line for each record on the chain, in its order": out of order, past a spare record, the same ban twice
    ∷ Tells (header 2 2 2 twos ++ row 1 2 2 2 0 ++ row 1 2 1 1 1) "slots 2 2\nban 1:1 2:1\nban 1:2 2:2\n"
    ∷ Tells (header 2 1 3 twos ++ row 1 2 1 1 3 ++ garbage ++ row 1 2 2 2 0) "slots 2 2\nban 1:1 2:1\nban 1:2 2:2\n"
    ∷ Tells (header 2 1 2 twos ++ row 1 2 2 1 2 ++ row 1 2 2 1 0) "slots 2 2\nban 1:2 2:1\nban 1:2 2:1\n"
    -- two digits
    ∷ Tells (header 12 1 1 eights ++ row 11 12 8 8 0) "slots 8 8 8 8 8 8 8 8 8 8 8 8\nban 11:8 12:8\n"
    -- edition 2, with signs; with no record on the chain
    ∷ Tells (gap_header 2 1 2 two_three ++ gap_row 1 2 (minus 1) 0 2 ++ gap_row 1 2 7 7 0) "slots 2 3\ngap 1 2 -1 0\ngap 1 2 7 7\n"
    ∷ Tells (gap_header 2 1 1 two_three ++ gap_row 1 2 (minus 7) (minus 7) 0) "slots 2 3\ngap 1 2 -7 -7\n"
    ∷ Tells (gap_header 2 0 1 two_three ++ garbage) "slots 2 3\n"
    -- refused as any sheet
    ∷ Fails [] 1
    ∷ Fails (take 23 plain) 1
    ∷ Fails (plain ++ 0 ∷ []) 1
    ∷ Fails (set plain 1 3) 2
    ∷ Fails (header 2 1 1 twos ++ row 1 2 2 3 0) 3
    ∷ Fails (gap_header 2 1 1 two_three ++ gap_row 1 2 1 0 0) 3
    ∷ Fails (header 2 1 1 twos ++ row 1 2 2 1 1) 4
    ∷ []

abbrev pub SheetsTold : Type 0
SheetsTold = map told_of tellings ≡ map due_of tellings

-- ---- what the program prints, on standard output and on standard error

abbrev pub prints : List ℕ → String → Printed
prints output error = record { output = output; error = bytes error }

unfoldable pub printed : List Printed
printed =
    sheet_printed (bytes "slots 1\n")
    ∷ sheet_printed (bytes "slots 1\nban 1:1 2:1\n")
    ∷ text_printed plain
    ∷ text_printed (set plain 1 3)
    ∷ []

abbrev pub AllPrinted : Type 0
AllPrinted =
    printed ≡ prints plain "" ∷ prints [] "line 2: no scanner 2\n" ∷ prints (bytes "slots 1\n") "" ∷ prints [] "refused 2\n" ∷ []
