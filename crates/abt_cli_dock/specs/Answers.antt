-- What `dock` answers, for every input.
use Rattle.std.specs.Prelude.{ℕ, true, false, List, eqb}
use Rattle.std.specs.List.{starts_with}
use Rattle.model_network.specs.Network.{start_sheet}
use Rattle.abt_dock_text.specs.Settling.{program_rule, program_rounds}
use Rattle.abt_dock_text.specs.Text.{sheet_refused, dock_text}
use Rattle.support_cli.specs.Answers.{Answer, done, refused, prints}

-- any verdict is one that was asked for
unfoldable pub status_by : ℕ → ℕ
status_by number = elim (eqb number 0) [ true ↦ done | false ↦ refused ]

unfoldable pub dock_status : List ℕ → ℕ
dock_status sheet = status_by (start_sheet program_rule sheet).number

-- the same by the text, which says that a sheet is refused
unfoldable pub status_told : List ℕ → ℕ
status_told text = elim (starts_with eqb text sheet_refused) [ true ↦ refused | false ↦ done ]

-- the text for the sheet, on standard output
unfoldable pub dock_answer : List ℕ → Answer
dock_answer sheet = prints (dock_text program_rounds sheet) (dock_status sheet)
