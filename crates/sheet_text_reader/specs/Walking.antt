-- What the walk over the lines comes to, and what the whole answers. A primed name is the definitions'.
use Rattle.std.specs.Prelude.{ℕ, Bool, cond, List, Result, Ok, Err}
use Rattle.model_base.specs.Lent.{Written as Written', untouched, put}
use Rattle.support_buffer.specs.Abstract.{written_of}
use Rattle.model_text.specs.Words.{lines_of, whole_lines}
use Rattle.model_text.specs.Drafts.{LineRejection as LineRejection'}
use Rattle.model_text.specs.Reading.{Outcome, Made, RejectedLine as RejectedLine', sheet_from}
use Rattle.sheet_text_reader.specs.declared.lines.RejectedLine.{RejectedLine}
use Rattle.sheet_text_reader.specs.declared.unread.TextRejection.{TextRejection}
use Rattle.sheet_text_reader.specs.declared.unread.TextRejection.TheVariants.{RejectedLine as FaultyLine, Refused}
use Rattle.sheet_text_drafts.specs.declared.draft.Draft.{Draft}
use Rattle.sheet_text_drafts.specs.Faults.{fault_of}
use Rattle.sheet_text_drafts.specs.Drafting.{draft_in}

-- ---- line by line

-- those that are judged
unfoldable pub lines_in : Bool → List ℕ → List (List ℕ)
lines_in cut text = cond cut (whole_lines text) (lines_of text)

unfoldable pub outcome_of : Result (Unit {0}) RejectedLine → Draft → Outcome
outcome_of (Ok u) d = Made (sheet_from (draft_in d))
outcome_of (Err e) d = RejectedLine' e.line (fault_of e.fault)

-- ---- the end

-- what is answered, with the buffer that is left
pub data Answer : Type 0 where
  Wrote : Written' → Answer
  Fails : ℕ → LineRejection' → Written' → Answer

-- the sheet, or the line and the fault: where a text is faulty nothing is written
unfoldable pub due : Outcome → List ℕ → Answer
due (Made sheet) buffer = Wrote (put sheet buffer)
due (RejectedLine' n fault) buffer = Fails n fault (untouched 0 buffer)

unfoldable pub read_of : Result ℕ TextRejection → List ℕ → Answer
read_of (Ok n) buffer = Wrote (written_of (Ok n) buffer)
read_of (Err (Refused rejection)) buffer = Wrote (written_of (Err rejection) buffer)
read_of (Err (FaultyLine e)) buffer = Fails e.line (fault_of e.fault) (untouched 0 buffer)
