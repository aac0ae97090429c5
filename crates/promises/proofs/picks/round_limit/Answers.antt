-- Each clause is proved where its claim is stated; these are the proofs. Assumes nothing.
use Rattle.theorems_dispatch.proofs.Theorems.{sheet-round-bound-with-picks, round-bound-with-picks, sheet-run-bound-with-picks, run-bound-with-picks}
use Rattle.promises.proofs.picks.round_limit.Goals as goal

pub returns-clause-bounded : goal.returns-clause-bounded
returns-clause-bounded c = sheet-round-bound-with-picks

pub returns-clause-bounded_of_problems : goal.returns-clause-bounded_of_problems
returns-clause-bounded_of_problems c = round-bound-with-picks

pub returns-clause-returned_bounded : goal.returns-clause-returned_bounded
returns-clause-returned_bounded c = sheet-run-bound-with-picks

pub returns-clause-returned_bounded_of_problems : goal.returns-clause-returned_bounded_of_problems
returns-clause-returned_bounded_of_problems c = run-bound-with-picks
