-- Each clause is proved where its claim is stated; these are the proofs. Assumes nothing.
use Rattle.theorems_lists.proofs.Theorems.{sheet-comes-to-calls, comes-to-calls, comes-to-calls-anywhere}
use Rattle.promises.proofs.mixed.calls.Goals as goal

pub returns-clause-calls : goal.returns-clause-calls
returns-clause-calls c = sheet-comes-to-calls

pub returns-clause-calls_of_problems : goal.returns-clause-calls_of_problems
returns-clause-calls_of_problems c = comes-to-calls

pub returns-clause-from_start : goal.returns-clause-from_start
returns-clause-from_start c = sheet-comes-to-calls

pub returns-clause-anywhere : goal.returns-clause-anywhere
returns-clause-anywhere c = comes-to-calls-anywhere
