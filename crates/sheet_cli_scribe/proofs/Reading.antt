-- What is read of a text is answered as its outcome says, and a text that is too long as its front.
-- No sheet of a text is longer than the longest, so that none is refused for want of room.
use Rattle.std.proofs.Common.{ℕ, suc, ◌≡◌, ◌≤◌, List, length, take, refl, ap, arith}
use Rattle.model_sheet.specs.Sheet.{longest_sheet}
use Rattle.model_sheet.proofs.Longest.{longest-is}
use Rattle.model_text.specs.Reading.{longest_text, Outcome, Made, RejectedLine, sheet_of}
use Rattle.model_text.specs.Printing.{outcome_printed, sheet_printed}
use Rattle.theorems_text.proofs.Theorems.{judged-by-front, sheets-accepted}
use Rattle.sheet_text_reader.specs.Walking.{due}
use Rattle.support_cli.specs.Answers.{prints, tells}
use Rattle.support_cli.proofs.Handing.{hands-put}
use Rattle.sheet_cli_scribe.specs.Answers.{shown, outcome_status, sheet_answer}
use Rattle.sheet_cli_scribe.specs.Reading.{read_answer}

by-outcome : (o : Outcome) (buffer : List ℕ) → ((s : List ℕ) → o ≡ Made s → length s ≤ longest_sheet) → longest_sheet ≤ length buffer
    → read_answer (due o buffer) ≡ shown (outcome_printed o) (outcome_status o)
unfolding due read_answer outcome_printed prints tells
by-outcome (Made s) buffer short room = let fits = short s refl in hands-put s buffer (omega arith)
by-outcome (RejectedLine n fault) buffer short room = refl

pub hands-read : (text buffer : List ℕ) → 33816 ≤ length buffer → read_answer (due (sheet_of text) buffer) ≡ sheet_answer text
unfolding sheet_answer sheet_printed
hands-read text buffer room = by-outcome (sheet_of text) buffer (λ s e. (sheets-accepted text s e).short) (omega (arith, longest-is))

pub sheet-cut : (text : List ℕ) → sheet_answer (take (suc longest_text) text) ≡ sheet_answer text
unfolding sheet_answer sheet_printed
sheet-cut text = ap (λ (o : Outcome). shown (outcome_printed o) (outcome_status o)) (judged-by-front text)

pub longest-text : longest_text ≡ 1048576
unfolding longest_text
longest-text = refl
