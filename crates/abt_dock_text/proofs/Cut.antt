-- Input beyond the longest sheet: what it comes to is what its first 33,817 bytes come to, since the checks of a sheet come out the same.
use Rattle.std.proofs.Common.{◌≡◌, ap, true, false, List, ℕ, suc, take}
use Rattle.model_sheet.specs.Sheet.{longest_sheet, Decoded}
use Rattle.model_sheet.proofs.Longest.{decode-cut}
use Rattle.model_network.specs.Network.{empty_network, is_rule, bad_rule, Started, started_on, start_sheet}
use Rattle.model_network.specs.Run.{run}
use Rattle.abt_dock_text.specs.Settling.{program_rule, settled}
use Rattle.abt_dock_text.specs.Text.{settled_text, dock_text}

pub start-cut : (rule : ℕ) (input : List ℕ) → start_sheet rule (take (suc longest_sheet) input) ≡ start_sheet rule input
unfolding start_sheet
start-cut rule input =
    ap
    (λ (d : Decoded). elim (is_rule rule) [ true ↦ started_on rule d | false ↦ record { number = bad_rule; network = empty_network } ])
    (decode-cut input)

pub text-cut : (rounds : ℕ) (input : List ℕ) → dock_text rounds (take (suc longest_sheet) input) ≡ dock_text rounds input
unfolding dock_text settled
text-cut rounds input = ap (λ (s : Started). settled_text s.number (run rounds s.network)) (start-cut program_rule input)
