-- From a text to a sheet, or to the line and the fault. docs/FORMATS.md, 'Sheets as text'.
use Rattle.std.specs.Prelude.{ℕ, suc, Bool, true, false, cond, List, [], ◌∷◌, length, take, eqb, ltb}
use Rattle.model_sheet.specs.Writing.{written}
use Rattle.model_text.specs.Words.{lines_of, whole_lines}
use Rattle.model_text.specs.Drafts.{LineRejection, SlotsFirst, LongText, Draft, no_draft, begun, Next, Wrong, with_line}

-- "1,048,576 bytes is the longest text"
unfoldable pub longest_text : ℕ
longest_text = 1048576

-- the bytes of the sheet; or the number of the first faulty line, and its fault
pub data Outcome : Type 0 where
  Made : List ℕ → Outcome
  RejectedLine : ℕ → LineRejection → Outcome

-- "A text with `gap` lines gives a sheet of edition 2, any other one of edition 1, one with no records too."
unfoldable pub edition_of : Draft → ℕ
edition_of d = cond (eqb d.edition 2) 2 1

unfoldable pub sheet_from : Draft → List ℕ
sheet_from d = written (edition_of d) d.problem d.rows

-- behind the last line, n the number that one more would have. `cut`: the text goes on, and is too long. "A text with no statement has the fault
-- `slots must come first`, at the number of its lines and one."
unfoldable pub at_end : Bool → ℕ → Draft → Outcome
at_end cut n d =
    elim cut [
      | true ↦ RejectedLine n LongText
      | false ↦ elim (begun d) [ true ↦ Made (sheet_from d) | false ↦ RejectedLine n SlotsFirst ]
    ]

-- the lines from number n on. "The first faulty line decides"
unfoldable pub read_lines : Bool → ℕ → Draft → List (List ℕ) → Outcome
read_lines cut n d [] = at_end cut n d
read_lines cut n d (line ∷ lines) =
    elim (with_line d line) [ Next e ↦ read_lines cut (suc n) e lines | Wrong fault ↦ RejectedLine n fault ]

-- the same of bytes, those of line n first. "Where a text is longer, only the lines that end before the first byte too many are
-- judged"
unfoldable pub read_from : Bool → ℕ → Draft → List ℕ → Outcome
read_from cut n d bytes = read_lines cut n d (cond cut (whole_lines bytes) (lines_of bytes))

-- by the first 1,048,576 bytes of the text and whether more follow
unfoldable pub sheet_of : List ℕ → Outcome
sheet_of text = read_from (ltb longest_text (length text)) 1 no_draft (take longest_text text)
