-- Each clause is proved where its claim is stated; these are the proofs. Assumes nothing.
use Rattle.theorems_image.proofs.Theorems.{sheet-round-bound-across, round-bound-across, sheet-run-bound-across, run-bound-across}
use Rattle.promises.proofs.storage.round_limit.Goals as goal

pub returns-clause-bounded : goal.returns-clause-bounded
returns-clause-bounded c = sheet-round-bound-across

pub returns-clause-bounded_of_problems : goal.returns-clause-bounded_of_problems
returns-clause-bounded_of_problems c = round-bound-across

pub returns-clause-returned_bounded : goal.returns-clause-returned_bounded
returns-clause-returned_bounded c = sheet-run-bound-across

pub returns-clause-returned_bounded_of_problems : goal.returns-clause-returned_bounded_of_problems
returns-clause-returned_bounded_of_problems c = run-bound-across
