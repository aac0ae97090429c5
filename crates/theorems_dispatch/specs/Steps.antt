-- Lists of picks, deliveries and runs together, on one network with a dispatcher above it. docs/RULES.md, 'The dispatcher'.
use Rattle.std.specs.Prelude.{List, [], ◌∷◌, ◌++◌, None, Option, Some}
use Rattle.model_network.specs.Run.{Line}
use Rattle.model_dispatch.specs.Dispatch.{Dispatcher, with_network, pick}
use Rattle.theorems_network.specs.Calls.{Call, Deliver, left_by}

pub data Step : Type 0 where
  Called : Call → Step  -- a delivery or a run, which leaves count and place
  Picked : Line → Step  -- a pick with this wish

unfoldable pub left_by_step : Step → Dispatcher → Dispatcher
left_by_step (Called c) d = with_network d (left_by c d.network)
left_by_step (Picked wish) d = (pick d wish).state

-- "each pick taking the state the one before left"
unfoldable pub left_by_steps : List Step → Dispatcher → Dispatcher
left_by_steps [] d = d
left_by_steps (s ∷ ss) d = left_by_steps ss (left_by_step s d)

-- ---- the calls that they come to: a pick is the delivery of the line that it served; one that served none is no call

unfoldable pub delivery_of : Option Line → List Call
delivery_of None = []
delivery_of (Some l) = Deliver l.from l.to ∷ []

unfoldable pub calls_by : Step → Dispatcher → List Call
calls_by (Called c) d = c ∷ []
calls_by (Picked wish) d = delivery_of (pick d wish).served

unfoldable pub calls_in : List Step → Dispatcher → List Call
calls_in [] d = []
calls_in (s ∷ ss) d = calls_by s d ++ calls_in ss (left_by_step s d)
