-- What the calls and their outcomes mean. A primed name is the definitions'.
use Rattle.std.specs.Prelude.{◌≡◌, true}
use Rattle.support_rejection.specs.Rejections.{rejection_number}
use Rattle.theorems_network.specs.Calls.{Deliver as Deliver', Run as Run'}
use Rattle.theorems_dispatch.specs.Steps.{Step, Called as Called', Picked, left_by_step}
use Rattle.abt_engine.specs.Answers.{ending_of}
use Rattle.abt_dispatch.specs.declared.Dispatcher.{Dispatcher}
use Rattle.abt_dispatch.specs.Abstract.{line_of, dispatcher_of}
use Rattle.abt_calls.specs.declared.calls.Call.{Call}
use Rattle.abt_calls.specs.declared.calls.Call.TheVariants.{Deliver, Run, Pick}
use Rattle.abt_calls.specs.declared.calls.Outcome.{Outcome}
use Rattle.abt_calls.specs.declared.calls.Outcome.TheVariants.{Delivered, Ran, Served, Refused}
use Rattle.abt_calls.specs.declared.calls.Called.{Called}
use Rattle.abt_calls.specs.Outcomes.{
  Came,
  Delivered as Delivered',
  Ran as Ran',
  Served as Served',
  Refused as Refused',
  is_refused,
  came_to,
}

-- a call as a step of the definitions
unfoldable pub step_of : Call → Step
step_of (Deliver l) = Called' (Deliver' l.from l.to)
step_of (Run rounds) = Called' (Run' rounds)
step_of (Pick wish) = Picked (line_of wish)

unfoldable pub came_of : Outcome → Came
came_of Delivered = Delivered'
came_of (Ran ending rounds) = Ran' (ending_of ending) rounds
came_of (Served l) = Served' (line_of l)
came_of (Refused r) = Refused' (rejection_number r)

-- A call on d is answered as the definitions' step s. A refused one hands back the very dispatcher given, unused places and all.
pub record AnswersAs (d : Dispatcher) (s : Step) (answer : Called) : Type 0 where
  pub left : dispatcher_of answer.dispatcher ≡ left_by_step s (dispatcher_of d)
  pub came : came_of answer.outcome ≡ came_to s (dispatcher_of d)
  pub untouched : is_refused (came_of answer.outcome) ≡ true → answer.dispatcher ≡ d
