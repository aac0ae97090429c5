-- What `scribe` writes: bytes on standard output, or one line on standard error. docs/PROGRAMS.md, 'scribe'; docs/FORMATS.md, 'Sheets as text'.
use Rattle.std.specs.Prelude.{ℕ, List, [], ◌∷◌}
use Rattle.model_base.specs.Decimal.{line_of}
use Rattle.model_text.specs.Reading.{Outcome, Made, RejectedLine, sheet_of}
use Rattle.model_text.specs.Telling.{Told, Text, Refused, text_of}
use Rattle.model_text.specs.Faults.{rejection_text}

pub record Printed : Type 0 where
  pub output : List ℕ
  pub error : List ℕ

-- "refused "
unfoldable pub refused_word : List ℕ
refused_word = 114 ∷ 101 ∷ 102 ∷ 117 ∷ 115 ∷ 101 ∷ 100 ∷ 32 ∷ []

-- "for a faulty text `line N: ` and what is wrong"
unfoldable pub outcome_printed : Outcome → Printed
outcome_printed (Made sheet) = record { output = sheet; error = [] }
outcome_printed (RejectedLine n fault) = record { output = []; error = rejection_text n fault }

-- "for a refused sheet `refused ` and the number, 1 to 4"
unfoldable pub told_printed : Told → Printed
told_printed (Text text) = record { output = text; error = [] }
told_printed (Refused number) = record { output = []; error = line_of refused_word number }

-- "`scribe sheet` reads a text on standard input and writes its sheet on standard output"
unfoldable pub sheet_printed : List ℕ → Printed
sheet_printed text = outcome_printed (sheet_of text)

-- "`scribe text` reads a sheet and writes its text"
unfoldable pub text_printed : List ℕ → Printed
text_printed sheet = told_printed (text_of sheet)
