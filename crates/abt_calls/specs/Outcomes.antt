-- What a call comes to, by the definitions of a delivery, a run and a pick: what its caller is told. docs/RULES.md, 'Why a call comes back', 'Rounds and
-- the run' and 'The dispatcher'.
use Rattle.std.specs.Prelude.{ℕ, ◌+◌, ◌≡◌, Bool, true, false, cond, List, [], ◌∷◌, eqb, None, Option, Some}
use Rattle.model_base.specs.Lists.{All}
use Rattle.model_network.specs.Network.{Network}
use Rattle.model_network.specs.Delivery.{answer_number, deliver}
use Rattle.model_network.specs.Run.{Line, Ending, ending_number, run}
use Rattle.theorems_network.specs.Calls.{Call, Deliver, Run}
use Rattle.model_dispatch.specs.Dispatch.{Dispatcher, pick}
use Rattle.theorems_dispatch.specs.Steps.{Step, Called, Picked, left_by_step}

pub data Came : Type 0 where
  Delivered : Came  -- the delivery was accepted
  Ran : Ending → ℕ → Came  -- the run's word, and the full rounds that it made
  Served : Line → Came  -- the line that the pick served
  Refused : ℕ → Came  -- the table's number

-- "A call that is not refused gives number 0."
unfoldable pub unless_refused : ℕ → Came → Came
unless_refused number came = cond (eqb number 0) came (Refused number)

unfoldable pub is_refused : Came → Bool
is_refused Delivered = false
is_refused (Ran ending rounds) = false
is_refused (Served l) = false
is_refused (Refused number) = true

-- ---- one call

unfoldable pub came_to_call : Call → Network → Came
came_to_call (Deliver i j) w = unless_refused (answer_number (deliver w i j).answer) Delivered
came_to_call (Run k) w = unless_refused (ending_number (run k w).ending) (Ran (run k w).ending (run k w).made)

-- a pick, by the line that it served and by its number: a refused one serves no line
unfoldable pub came_to_pick : Option Line → ℕ → Came
came_to_pick (Some l) number = Served l
came_to_pick None number = Refused number

unfoldable pub came_to : Step → Dispatcher → Came
came_to (Called c) d = came_to_call c d.network
came_to (Picked wish) d = came_to_pick (pick d wish).served (answer_number (pick d wish).answer)

-- ---- a list of calls, each on the state that the one before left

unfoldable pub came_by_all : List Step → Dispatcher → List Came
came_by_all [] d = []
came_by_all (s ∷ ss) d = came_to s d ∷ came_by_all ss (left_by_step s d)

abbrev pub AllRefused : List Step → Dispatcher → Type 0
AllRefused ss d = All (λ c. is_refused c ≡ true) (came_by_all ss d)

-- the full rounds that a caller is told were made: those of runs that were not refused
unfoldable pub rounds_of : Came → ℕ
rounds_of Delivered = 0
rounds_of (Ran ending rounds) = rounds
rounds_of (Served l) = 0
rounds_of (Refused number) = 0

unfoldable pub rounds_in : List Came → ℕ
rounds_in [] = 0
rounds_in (c ∷ cs) = rounds_of c + rounds_in cs
