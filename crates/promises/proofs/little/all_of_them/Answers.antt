-- Each clause is proved where its claim is stated; these are the proofs. Assumes nothing.
use Rattle.model_little.proofs.Theorems.{counted, accepted, starts, found, once, exactly-one}
use Rattle.promises.proofs.little.all_of_them.Goals as goal

pub returns-clause-counted : goal.returns-clause-counted
returns-clause-counted c = counted

pub returns-clause-accepted : goal.returns-clause-accepted
returns-clause-accepted c = accepted

pub returns-clause-started : goal.returns-clause-started
returns-clause-started c = starts

pub returns-clause-found : goal.returns-clause-found
returns-clause-found c = found

pub returns-clause-once : goal.returns-clause-once
returns-clause-once c = once

pub returns-clause-exactly_one : goal.returns-clause-exactly_one
returns-clause-exactly_one c = exactly-one
