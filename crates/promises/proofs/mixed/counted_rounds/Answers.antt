-- Each clause is proved where its claim is stated; these are the proofs. Assumes nothing.
use Rattle.theorems_lists.proofs.Theorems.{sheet-runs-count-mixed, runs-count-mixed, sheet-runs-mark-mixed, runs-mark-mixed}
use Rattle.promises.proofs.mixed.counted_rounds.Goals as goal

pub returns-clause-exact : goal.returns-clause-exact
returns-clause-exact c = sheet-runs-count-mixed

pub returns-clause-exact_of_problems : goal.returns-clause-exact_of_problems
returns-clause-exact_of_problems c = runs-count-mixed

pub returns-clause-marked : goal.returns-clause-marked
returns-clause-marked c = sheet-runs-mark-mixed

pub returns-clause-marked_of_problems : goal.returns-clause-marked_of_problems
returns-clause-marked_of_problems c = runs-mark-mixed
