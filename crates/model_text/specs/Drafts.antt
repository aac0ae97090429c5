-- What statements come to, one after another: a draft of the sheet, or the first fault. docs/FORMATS.md, 'Sheets as text'.
use Rattle.std.specs.Prelude.{ℕ, ◌-◌, Bool, true, false, not, cond, ◌&&◌, List, [], ◌∷◌, ◌++◌, length, replicate, eqb, ltb, ℤ, pos, negsuc, neg_ℤ}
use Rattle.std.specs.Int.Signed.{le_z}
use Rattle.model_base.specs.Finite.{within, every}
use Rattle.model_sheet.specs.Problem.{Problem, max_agents, max_domain, no_bans, empty_problem, owns}
use Rattle.model_sheet.specs.Row.{Row, between}
use Rattle.model_sheet.specs.Sheet.{max_records}
use Rattle.model_text.specs.Statements.{Statement, Slots, Ban, Gap, Said, Empty, Says, Unclear, line_says}

-- what is wrong with a line
pub data LineRejection : Type 0 where
  NotStatement : LineRejection  -- "not a statement"
  SlotsFirst : LineRejection  -- "slots must come first"
  SlotsTwice : LineRejection  -- "slots twice"
  AgentCount : LineRejection  -- "1 to 12 scanners"
  DomainSize : LineRejection  -- "a slot count is 1 to 8"
  BothKinds : LineRejection  -- "bans and gaps in one text"
  NoAgent : ℕ → LineRejection  -- "no scanner K"
  SameAgent : LineRejection  -- "the same scanner twice"
  HigherFirst : LineRejection  -- "the lower-numbered scanner comes first"
  NotOwned : ℕ → ℕ → LineRejection  -- "scanner K has no slot S"
  GapRange : LineRejection  -- "a gap is -7 to 7"
  LeastAbove : LineRejection  -- "least is above greatest"
  ManyRecords : LineRejection  -- "more than 4224 records"
  LongText : LineRejection  -- "text too long"

-- ---- drafts

pub record Draft : Type 0 where
  pub problem : Problem  -- n and the slot counts, with no ban; n is 0 before they are said
  pub edition : ℕ  -- of the records so far, 0 while there is none
  pub rows : List Row  -- in the order of the lines

unfoldable pub no_draft : Draft
no_draft = record { problem = empty_problem; edition = 0; rows = [] }

-- the slot counts are said
unfoldable pub begun : Draft → Bool
begun d = ltb 0 d.problem.count

-- with these slot counts
unfoldable pub with_slots : Draft → List ℕ → Draft
with_slots d domains =
    record {
      problem = record { count = length domains; domains = domains ++ replicate (max_agents - length domains) 0; bans = no_bans };
      edition = d.edition;
      rows = d.rows;
    }

-- with one record more, of this edition. "Records stand in the order of the lines"
unfoldable pub with_record : Draft → ℕ → Row → Draft
with_record d edition row = record { problem = d.problem; edition = edition; rows = d.rows ++ (row ∷ []) }

-- ---- records

-- agent a at value s, agent b at value t. "the record of a ban has the lower-numbered scanner first, and its slot with it"
unfoldable pub ban_record : ℕ → ℕ → ℕ → ℕ → Row
ban_record a s b t =
    cond (ltb a b) (record { lower = a; higher = b; low = s; high = t }) (record { lower = b; higher = a; low = t; high = s })

-- a gap as a signed byte, two's complement
unfoldable pub gap_byte : ℤ → ℕ
gap_byte (pos k) = k
gap_byte (negsuc k) = 255 - k

unfoldable pub gap_record : ℕ → ℕ → ℤ → ℤ → Row
gap_record a b least greatest = record { lower = a; higher = b; low = gap_byte least; high = gap_byte greatest }

-- ---- tests, in their order

-- what has to hold, and the fault where it does not
pub data Test : Type 0 where
  Need : Bool → LineRejection → Test

-- what a statement comes to
pub data Taken : Type 0 where
  Next : Draft → Taken
  Wrong : LineRejection → Taken

-- this draft, if every test holds; else the fault of the first that does not
unfoldable pub tested : List Test → Draft → Taken
tested [] d = Next d
tested (Need good fault ∷ tests) d = elim good [ true ↦ tested tests d | false ↦ Wrong fault ]

-- "scanner numbers not 1 to n"
unfoldable pub is_agent : Draft → ℕ → Bool
is_agent d a = within d.problem.count a

unfoldable pub slots_tests : Draft → List ℕ → List Test
slots_tests d domains =
    Need (not (begun d)) SlotsTwice
    ∷ Need (within max_agents (length domains)) AgentCount
    ∷ Need (every (within max_domain) domains) DomainSize
    ∷ []

-- of both kinds of records; the other kind is of this edition
unfoldable pub pair_tests : Draft → ℕ → ℕ → ℕ → List Test
pair_tests d other a b =
    Need (begun d) SlotsFirst
    ∷ Need (not (eqb d.edition other)) BothKinds
    ∷ Need (is_agent d a) (NoAgent a)
    ∷ Need (is_agent d b) (NoAgent b)
    ∷ Need (not (eqb a b)) SameAgent
    ∷ []

unfoldable pub room_tests : Draft → List Test
room_tests d = Need (ltb (length d.rows) max_records) ManyRecords ∷ []

unfoldable pub ban_tests : Draft → ℕ → ℕ → ℕ → ℕ → List Test
ban_tests d a s b t =
    pair_tests d 2 a b
    ++ (Need (owns d.problem a s) (NotOwned a s) ∷ Need (owns d.problem b t) (NotOwned b t) ∷ room_tests d)

-- "a gap is -7 to 7"
unfoldable pub is_gap : ℤ → Bool
is_gap z = between (neg_ℤ (pos 7)) (pos 7) z

unfoldable pub gap_tests : Draft → ℕ → ℕ → ℤ → ℤ → List Test
gap_tests d a b least greatest =
    pair_tests d 1 a b
    ++ (Need (ltb a b) HigherFirst
    ∷ Need (is_gap least && is_gap greatest) GapRange
    ∷ Need (le_z least greatest) LeastAbove
    ∷ room_tests d)

-- ---- one statement, one line

unfoldable pub with_statement : Draft → Statement → Taken
with_statement d (Slots domains) = tested (slots_tests d domains) (with_slots d domains)
with_statement d (Ban a s b t) = tested (ban_tests d a s b t) (with_record d 1 (ban_record a s b t))
with_statement d (Gap a b least greatest) = tested (gap_tests d a b least greatest) (with_record d 2 (gap_record a b least greatest))

unfoldable pub with_said : Draft → Said → Taken
with_said d Empty = Next d
with_said d (Says statement) = with_statement d statement
with_said d Unclear = Wrong NotStatement

unfoldable pub with_line : Draft → List ℕ → Taken
with_line d line = with_said d (line_says line)
