-- What `scribe` answers, for every command line and every input: `scribe sheet`, `scribe text`. docs/PROGRAMS.md, 'scribe'.
use Rattle.std.specs.Prelude.{ℕ, suc, true, false, List, [], ◌∷◌, Option, None, Some, bytes_eq, codes}
use Rattle.model_sheet.specs.Sheet.{longest_sheet}
use Rattle.model_text.specs.Reading.{longest_text, Outcome, Made, RejectedLine, sheet_of}
use Rattle.model_text.specs.Telling.{Told, Text as Told', Refused, text_of}
use Rattle.model_text.specs.Printing.{Printed, sheet_printed, text_printed}
use Rattle.support_cli.specs.Answers.{Answer, done, refused, not_understood, says}
use Rattle.sheet_cli_scribe.specs.declared.Command.{Command}
use Rattle.sheet_cli_scribe.specs.declared.Command.TheVariants.{Sheet, Text}

-- ---- what is written

abbrev pub shown : Printed → ℕ → Answer
shown p status = record { output = p.output; errors = p.error; status = status }

abbrev pub outcome_status : Outcome → ℕ
outcome_status (Made sheet) = done
outcome_status (RejectedLine n fault) = refused

abbrev pub told_status : Told → ℕ
told_status (Told' text) = done
told_status (Refused number) = refused

-- "`scribe sheet` reads a text on standard input and writes its sheet"
unfoldable pub sheet_answer : List ℕ → Answer
sheet_answer text = shown (sheet_printed text) (outcome_status (sheet_of text))

-- "`scribe text` reads a sheet and writes its text"
unfoldable pub text_answer : List ℕ → Answer
text_answer sheet = shown (text_printed sheet) (told_status (text_of sheet))

-- ---- by the words of the command line and the input

-- the first word
unfoldable pub command_in : List ℕ → Option Command
command_in word =
    elim (bytes_eq word (codes "sheet")) [
      | true ↦ Some Sheet
      | false ↦ elim (bytes_eq word (codes "text")) [ true ↦ Some Text | false ↦ None ]
    ]

abbrev pub answer_to : Command → List ℕ → Answer
answer_to Sheet s = sheet_answer s
answer_to Text s = text_answer s

-- where a command is understood, no word may stand behind it
unfoldable pub obeyed : Command → List (List ℕ) → List ℕ → Answer
obeyed command [] s = answer_to command s
obeyed command (word ∷ words) s = says (codes "argument not understood: ") word not_understood

unfoldable pub answer_by : Option Command → List ℕ → List (List ℕ) → List ℕ → Answer
answer_by None word words s = says (codes "command not understood: ") word not_understood
answer_by (Some command) word words s = obeyed command words s

unfoldable pub scribe_answer : List (List ℕ) → List ℕ → Answer
scribe_answer [] s = says (codes "no command given: scribe sheet, or scribe text") [] not_understood
scribe_answer (word ∷ words) s = answer_by (command_in word) word words s

-- ---- how much of the input is taken: no more than tells whether it is a text or a sheet, and nothing where the command line is not understood

abbrev pub taken_for : Command → ℕ
taken_for Sheet = suc longest_text
taken_for Text = suc longest_sheet

unfoldable pub taken_by : Option Command → List (List ℕ) → ℕ
taken_by None words = 0
taken_by (Some command) [] = taken_for command
taken_by (Some command) (word ∷ words) = 0

unfoldable pub bytes_taken : List (List ℕ) → ℕ
bytes_taken [] = 0
bytes_taken (word ∷ words) = taken_by (command_in word) words
