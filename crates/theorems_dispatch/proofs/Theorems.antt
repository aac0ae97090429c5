-- The claims about lists of picks, deliveries and runs together.
-- Such a list leaves what the calls that it comes to leave, and of lists of calls they are proved.
use Rattle.model_network.specs.Network.{start}
use Rattle.theorems_network.specs.Claims.{EveryProblem, EverySheet}
use Rattle.theorems_network.proofs.Theorems.{stays-in-shape, sound-at-rest, complete-verdict, round-bound, run-bound, every-sheet}
use Rattle.theorems_dispatch.specs.Steps.{calls_in}
use Rattle.theorems_dispatch.specs.Claims.{
  PicksAreCalls,
  above,
  SoundWithPicks,
  CompleteWithPicks,
  InShapeWithPicks,
  RoundBoundWithPicks,
  RunBoundWithPicks,
}
use Rattle.theorems_dispatch.proofs.Coming.{comes-to}

pub picks-are-calls : PicksAreCalls
picks-are-calls = comes-to

-- ---- from a start

pub sound-with-picks : EveryProblem SoundWithPicks
unfolding above
sound-with-picks rule is-rule p r picks place steps =
    let d = above (start rule p) picks place in rw (comes-to d steps) (sound-at-rest rule is-rule p r (calls_in steps d))

pub complete-with-picks : EveryProblem CompleteWithPicks
unfolding above
complete-with-picks rule is-rule p r picks place steps =
    let d = above (start rule p) picks place in rw (comes-to d steps) (complete-verdict rule is-rule p r (calls_in steps d))

pub in-shape-with-picks : EveryProblem InShapeWithPicks
unfolding above
in-shape-with-picks rule is-rule p r picks place steps =
    let d = above (start rule p) picks place in rw (comes-to d steps) (stays-in-shape rule is-rule p r (calls_in steps d))

pub round-bound-with-picks : EveryProblem RoundBoundWithPicks
round-bound-with-picks rule is-rule p r picks place steps =
    round-bound rule is-rule p r (calls_in steps (above (start rule p) picks place))

pub run-bound-with-picks : EveryProblem RunBoundWithPicks
run-bound-with-picks rule is-rule p r picks place steps =
    run-bound rule is-rule p r (calls_in steps (above (start rule p) picks place))

-- ---- sheets: what holds of every problem in range holds of every accepted sheet

pub sheet-sound-with-picks : EverySheet SoundWithPicks
sheet-sound-with-picks = every-sheet SoundWithPicks sound-with-picks

pub sheet-complete-with-picks : EverySheet CompleteWithPicks
sheet-complete-with-picks = every-sheet CompleteWithPicks complete-with-picks

pub sheet-in-shape-with-picks : EverySheet InShapeWithPicks
sheet-in-shape-with-picks = every-sheet InShapeWithPicks in-shape-with-picks

pub sheet-round-bound-with-picks : EverySheet RoundBoundWithPicks
sheet-round-bound-with-picks = every-sheet RoundBoundWithPicks round-bound-with-picks

pub sheet-run-bound-with-picks : EverySheet RunBoundWithPicks
sheet-run-bound-with-picks = every-sheet RunBoundWithPicks run-bound-with-picks
