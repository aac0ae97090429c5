-- Each clause is proved where its claim is stated; these are the proofs. Assumes nothing.
use Rattle.theorems_isolation.proofs.Theorems.{named-answered-alike, answered-alike}
use Rattle.promises.proofs.isolation.answered_alike.Goals as goal

pub returns-clause-named : goal.returns-clause-named
returns-clause-named c = named-answered-alike

pub returns-clause-above : goal.returns-clause-above
returns-clause-above c = answered-alike
