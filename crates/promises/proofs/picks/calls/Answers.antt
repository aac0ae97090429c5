-- Each clause is proved where its claim is stated; these are the proofs. Assumes nothing.
use Rattle.theorems_dispatch.proofs.Theorems.{picks-are-calls, sheet-in-shape-with-picks, in-shape-with-picks}
use Rattle.promises.proofs.picks.calls.Goals as goal

pub returns-clause-calls : goal.returns-clause-calls
returns-clause-calls c = picks-are-calls

pub returns-clause-in_shape : goal.returns-clause-in_shape
returns-clause-in_shape c = sheet-in-shape-with-picks

pub returns-clause-in_shape_of_problems : goal.returns-clause-in_shape_of_problems
returns-clause-in_shape_of_problems c = in-shape-with-picks
