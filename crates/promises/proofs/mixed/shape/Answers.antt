-- Each clause is proved where its claim is stated; these are the proofs. Assumes nothing.
use Rattle.theorems_lists.proofs.Theorems.{sheet-reached-mixed, reached-mixed, stays-mixed, rule-kept-mixed}
use Rattle.promises.proofs.mixed.shape.Goals as goal

pub returns-clause-reached : goal.returns-clause-reached
returns-clause-reached c = sheet-reached-mixed

pub returns-clause-reached_of_problems : goal.returns-clause-reached_of_problems
returns-clause-reached_of_problems c = reached-mixed

pub returns-clause-stays : goal.returns-clause-stays
returns-clause-stays c = stays-mixed

pub returns-clause-rule : goal.returns-clause-rule
returns-clause-rule c = rule-kept-mixed
