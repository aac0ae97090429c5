-- What `turn` answers, for every command line and every input: `turn bans`, `turn gaps`. docs/PROGRAMS.md, 'turn'.
use Rattle.std.specs.Prelude.{ℕ, suc, true, false, List, [], ◌∷◌, Option, None, Some, bytes_eq, codes}
use Rattle.model_sheet.specs.Sheet.{longest_sheet}
use Rattle.model_editions.specs.Turning.{Turned, Made, Refused, ban_sheet, gap_sheet}
use Rattle.support_cli.specs.Answers.{Answer, done, not_understood, prints, says, says_refused}
use Rattle.sheet_cli_turn.specs.declared.Command.{Command}
use Rattle.sheet_cli_turn.specs.declared.Command.TheVariants.{Bans, Gaps}

-- the first word
unfoldable pub command_in : List ℕ → Option Command
command_in word =
    elim (bytes_eq word (codes "bans")) [
      | true ↦ Some Bans
      | false ↦ elim (bytes_eq word (codes "gaps")) [ true ↦ Some Gaps | false ↦ None ]
    ]

abbrev pub turn_by : Command → List ℕ → Turned
turn_by Bans s = ban_sheet s
turn_by Gaps s = gap_sheet s

-- the sheet, or "`refused K`"
unfoldable pub turned : Turned → Answer
turned (Made t) = prints t done
turned (Refused number) = says_refused number

-- where a command is understood, no word may stand behind it
unfoldable pub obeyed : Command → List (List ℕ) → List ℕ → Answer
obeyed command [] s = turned (turn_by command s)
obeyed command (word ∷ words) s = says (codes "argument not understood: ") word not_understood

unfoldable pub answer_by : Option Command → List ℕ → List (List ℕ) → List ℕ → Answer
answer_by None word words s = says (codes "command not understood: ") word not_understood
answer_by (Some command) word words s = obeyed command words s

-- by the words of the command line and the input
unfoldable pub turn_answer : List (List ℕ) → List ℕ → Answer
turn_answer [] s = says (codes "no command given: turn bans, or turn gaps") [] not_understood
turn_answer (word ∷ words) s = answer_by (command_in word) word words s

-- ---- how much of the input is taken: no more than tells whether it is a sheet, and nothing where the command line is not understood

unfoldable pub taken_by : Option Command → List (List ℕ) → ℕ
taken_by None words = 0
taken_by (Some command) [] = suc longest_sheet
taken_by (Some command) (word ∷ words) = 0

unfoldable pub bytes_taken : List (List ℕ) → ℕ
bytes_taken [] = 0
bytes_taken (word ∷ words) = taken_by (command_in word) words
