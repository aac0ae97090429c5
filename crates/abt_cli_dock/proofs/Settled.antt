-- The status that a text tells is that of its sheet, and an input beyond the longest sheet is settled as its front is.
-- The text of a sheet that is refused begins with these words, and any other with `verdict`.
use Rattle.std.proofs.Common.{ℕ, suc, ◌≡◌, List, take, refl, eqb}
use Rattle.model_base.proofs.Tests.{test}
use Rattle.model_sheet.specs.Sheet.{longest_sheet}
use Rattle.model_network.specs.Network.{start_sheet}
use Rattle.model_network.specs.Run.{Ran}
use Rattle.model_base.specs.Decimal.{line_of}
use Rattle.abt_dock_text.specs.Settling.{program_rule, program_rounds, settled}
use Rattle.abt_dock_text.specs.Text.{sheet_refused, verdict, ran_text, settled_text, dock_text}
use Rattle.abt_dock_text.proofs.Cut.{start-cut, text-cut}
use Rattle.abt_cli_dock.specs.Answers.{status_by, status_told, dock_status, dock_answer}

told-by : (number : ℕ) (r : Ran) → status_told (settled_text number r) ≡ status_by number
unfolding settled_text ran_text verdict line_of sheet_refused status_told status_by
told-by number r = test (eqb number 0) (λ t. rw (t, settled_text, status_by) refl) (λ t. rw (t, settled_text, status_by) refl)

pub status-told : (sheet : List ℕ) → status_told (dock_text program_rounds sheet) ≡ dock_status sheet
unfolding dock_text dock_status
status-told sheet = told-by (start_sheet program_rule sheet).number (settled program_rounds sheet)

pub answer-cut : (sheet : List ℕ) → dock_answer (take (suc longest_sheet) sheet) ≡ dock_answer sheet
unfolding dock_answer dock_status
answer-cut sheet = rw (text-cut program_rounds sheet, start-cut program_rule sheet) refl
