-- Each clause is proved where its claim is stated; these are the proofs. Assumes nothing.
use Rattle.theorems_network.proofs.Theorems.{sheet-run-tells, run-tells, sheet-delivery-tells, delivery-tells}
use Rattle.promises.proofs.calls.answers.Goals as goal

pub returns-clause-run : goal.returns-clause-run
returns-clause-run c = sheet-run-tells

pub returns-clause-run_of_problems : goal.returns-clause-run_of_problems
returns-clause-run_of_problems c = run-tells

pub returns-clause-delivery : goal.returns-clause-delivery
returns-clause-delivery c = sheet-delivery-tells

pub returns-clause-delivery_of_problems : goal.returns-clause-delivery_of_problems
returns-clause-delivery_of_problems c = delivery-tells
