-- Each clause is proved where its claim is stated; these are the proofs. Assumes nothing.
use Rattle.theorems_lists.proofs.Theorems.{sheet-stands-mixed, stands-mixed, sheet-run-tells-mixed, run-tells-mixed}
use Rattle.promises.proofs.mixed.answers.Goals as goal

pub returns-clause-stands : goal.returns-clause-stands
returns-clause-stands c = sheet-stands-mixed

pub returns-clause-stands_of_problems : goal.returns-clause-stands_of_problems
returns-clause-stands_of_problems c = stands-mixed

pub returns-clause-run : goal.returns-clause-run
returns-clause-run c = sheet-run-tells-mixed

pub returns-clause-run_of_problems : goal.returns-clause-run_of_problems
returns-clause-run_of_problems c = run-tells-mixed
