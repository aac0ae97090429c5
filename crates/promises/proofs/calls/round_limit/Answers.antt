-- Each clause is proved where its claim is stated; these are the proofs. Assumes nothing.
use Rattle.theorems_network.proofs.Theorems.{sheet-round-bound, round-bound, sheet-run-bound, run-bound}
use Rattle.promises.proofs.calls.round_limit.Goals as goal

pub returns-clause-bounded : goal.returns-clause-bounded
returns-clause-bounded c = sheet-round-bound

pub returns-clause-bounded_of_problems : goal.returns-clause-bounded_of_problems
returns-clause-bounded_of_problems c = round-bound

pub returns-clause-returned_bounded : goal.returns-clause-returned_bounded
returns-clause-returned_bounded c = sheet-run-bound

pub returns-clause-returned_bounded_of_problems : goal.returns-clause-returned_bounded_of_problems
returns-clause-returned_bounded_of_problems c = run-bound
