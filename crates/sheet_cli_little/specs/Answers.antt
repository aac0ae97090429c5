-- What `little` answers, for every command line: `little N`. docs/PROGRAMS.md, 'All the little sheets'.
use Rattle.std.specs.Prelude.{ℕ, true, false, List, [], ◌∷◌, Option, None, Some, ltb, codes}
use Rattle.model_base.specs.Numerals.{number_in}
use Rattle.model_little.specs.Little.{little_count, little_sheet}
use Rattle.model_little.specs.Putting.{no_ordinal}
use Rattle.support_cli.specs.Answers.{Answer, done, not_understood, prints, says, says_refused}

-- "The program `little N` writes the sheet of that ordinal on standard output."; "14, an ordinal above 4,995"
unfoldable pub sheet_answer : ℕ → Answer
sheet_answer ordinal = elim (ltb ordinal little_count) [ true ↦ prints (little_sheet ordinal) done | false ↦ says_refused no_ordinal ]

-- where the number is understood, no word may stand behind it
unfoldable pub answered : ℕ → List (List ℕ) → Answer
answered ordinal [] = sheet_answer ordinal
answered ordinal (word ∷ words) = says (codes "argument not understood: ") word not_understood

unfoldable pub answer_by : Option ℕ → List ℕ → List (List ℕ) → Answer
answer_by None word words = says (codes "number not understood: ") word not_understood
answer_by (Some ordinal) word words = answered ordinal words

-- by the words of the command line
unfoldable pub little_answer : List (List ℕ) → Answer
little_answer [] = says (codes "no number given: little N") [] not_understood
little_answer (word ∷ words) = answer_by (number_in word) word words
