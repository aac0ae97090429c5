-- Each clause is proved where its claim is stated; these are the proofs. Assumes nothing.
use Rattle.theorems_lists.proofs.Theorems.{sheet-asked-once-mixed, asked-once-mixed}
use Rattle.promises.proofs.mixed.links.Goals as goal

pub returns-clause-asked_once : goal.returns-clause-asked_once
returns-clause-asked_once c = sheet-asked-once-mixed

pub returns-clause-asked_once_of_problems : goal.returns-clause-asked_once_of_problems
returns-clause-asked_once_of_problems c = asked-once-mixed
