-- What the dispatcher's record means, and what an answer does. A primed name is the definitions'.
use Rattle.std.specs.Prelude.{ℕ, ◌≡◌, true, false, Option, Result, Ok, Err, None, Some}
use Rattle.support_rejection.specs.Rejections.{rejection_number}
use Rattle.support_rejection.specs.declared.Rejection.{Rejection}
use Rattle.model_network.specs.Network.{Network}
use Rattle.model_network.specs.Shape.{in_shape}
use Rattle.model_network.specs.Delivery.{BadShape, VerdictStands, EmptyChannel, NoRoom, rejection_number as rejection_number', answer_number}
use Rattle.model_network.specs.Run.{Line as Line', idle}
use Rattle.model_dispatch.specs.Dispatch.{Dispatcher as Dispatcher', Pick}
use Rattle.abt_record.specs.Abstract.{network_of}
use Rattle.abt_dispatch.specs.declared.Line.{Line}
use Rattle.abt_dispatch.specs.declared.Dispatcher.{Dispatcher}
use Rattle.abt_dispatch.specs.declared.Picked.{Picked}

abbrev pub line : ℕ → ℕ → Line'
line i j = record { from = i; to = j }

abbrev pub line_of : Line → Line'
line_of l = line l.from l.to

unfoldable pub dispatcher_of : Dispatcher → Dispatcher'
dispatcher_of d = record { network = network_of d.network; picks = d.picks; place = line_of d.place }

-- "5 comes first, then 7 for a verdict": the number of the first that is met, 0 for neither
unfoldable pub tested_by : Network → ℕ
tested_by w =
    elim (in_shape w) [
      | false ↦ rejection_number' BadShape
      | true ↦ elim w.unsolvable [ true ↦ rejection_number' VerdictStands | false ↦ 0 ]
    ]

-- "When no line can be delivered: 8 with nothing waiting, 10 otherwise"
unfoldable pub nothing_by : Network → ℕ
nothing_by w = elim (idle w) [ true ↦ rejection_number' EmptyChannel | false ↦ rejection_number' NoRoom ]

-- number 0 and the line served, or the refusal's number and no line
abbrev pub answered_number : Result Line Rejection → ℕ
answered_number (Ok l) = 0
answered_number (Err e) = rejection_number e

abbrev pub served_of : Result Line Rejection → Option Line'
served_of (Ok l) = Some (line_of l)
served_of (Err e) = None

-- a pick on d is answered as the definitions' pick p. A refused one hands back the very state given, unused places and all.
pub record PicksAs (d : Dispatcher) (p : Pick) (answer : Picked) : Type 0 where
  pub number : answered_number answer.answer ≡ answer_number p.answer
  pub served : served_of answer.answer ≡ p.served
  pub state : dispatcher_of answer.state ≡ p.state
  pub untouched : (answered_number answer.answer ≡ 0 → ⊥) → answer.state ≡ d
