-- Each clause is proved where its claim is stated; these are the proofs. Assumes nothing.
use Rattle.theorems_network.proofs.Theorems.{sheet-runs-count, runs-count, sheet-runs-mark, runs-mark}
use Rattle.promises.proofs.calls.counted_rounds.Goals as goal

pub returns-clause-exact : goal.returns-clause-exact
returns-clause-exact c = sheet-runs-count

pub returns-clause-exact_of_problems : goal.returns-clause-exact_of_problems
returns-clause-exact_of_problems c = runs-count

pub returns-clause-marked : goal.returns-clause-marked
returns-clause-marked c = sheet-runs-mark

pub returns-clause-marked_of_problems : goal.returns-clause-marked_of_problems
returns-clause-marked_of_problems c = runs-mark
