-- Each clause is proved where its claim is stated; these are the proofs. Assumes nothing.
use Rattle.theorems_network.proofs.Theorems.{sheet-stays-in-shape, stays-in-shape, deliver-keeps, run-keeps, rule-kept}
use Rattle.promises.proofs.calls.shape.Goals as goal

pub returns-clause-reached : goal.returns-clause-reached
returns-clause-reached c = sheet-stays-in-shape

pub returns-clause-reached_of_problems : goal.returns-clause-reached_of_problems
returns-clause-reached_of_problems c = stays-in-shape

pub returns-clause-delivery : goal.returns-clause-delivery
returns-clause-delivery c = deliver-keeps

pub returns-clause-run : goal.returns-clause-run
returns-clause-run c = run-keeps

pub returns-clause-rule : goal.returns-clause-rule
returns-clause-rule c = rule-kept
