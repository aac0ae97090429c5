-- The start's contract, for the whole input, and a dispatcher that begins with its network.
use Rattle.std.proofs.Common.{◌≡◌, sym, ap, ◌∙◌, List, ℕ, Result}
use Rattle.support_rejection.specs.declared.Rejection.{Rejection}
use Rattle.model_network.specs.Network.{Started, start_sheet}
use Rattle.model_dispatch.specs.Dispatch.{dispatcher}
use Rattle.abt_dispatch.specs.declared.Dispatcher.{Dispatcher}
use Rattle.abt_dock_text.proofs.Cut.{start-cut}
use Rattle.abt_board_text.specs.Calling.{begun_number, begun_of, BeginsAs}
use Rattle.abt_board_text.proofs.begin.Goals as goal

begins : (rule : ℕ) (sheet : List ℕ) (b : Result Dispatcher Rejection) → begun_number b ≡ (start_sheet rule sheet).number
    → begun_of b ≡ dispatcher (start_sheet rule sheet).network → BeginsAs rule sheet b
begins rule sheet b n d =
    record {
      numbered = n;
      started = d;
      whole = λ input h.
          let s : start_sheet rule sheet ≡ start_sheet rule input = ap (start_sheet rule) (sym h) ∙ start-cut rule input in
          (n ∙ ap (λ (x : Started). x.number) s, d ∙ ap (λ (x : Started). dispatcher x.network) s);
    }

pub returns-in-Ok : goal.returns-in-Ok
returns-in-Ok c = let s = c.in-Ok.ensures in begins _ _ _ s.number (c.begin.ensures ∙ ap dispatcher s.network)

pub returns-in-Err : goal.returns-in-Err
returns-in-Err c = let s = c.in-Err.ensures in begins _ _ _ s.number (ap dispatcher s.network)
