-- Each clause is proved where its claim is stated; these are the proofs. Assumes nothing.
use Rattle.theorems_network.proofs.Theorems.{sheet-asked-once, asked-once}
use Rattle.promises.proofs.calls.links.Goals as goal

pub returns-clause-asked_once : goal.returns-clause-asked_once
returns-clause-asked_once c = sheet-asked-once

pub returns-clause-asked_once_of_problems : goal.returns-clause-asked_once_of_problems
returns-clause-asked_once_of_problems c = asked-once
