-- Each clause is proved where its claim is stated; these are the proofs. Assumes nothing.
use Rattle.theorems_isolation.proofs.Theorems.{named-acts-alike, acts-alike}
use Rattle.promises.proofs.isolation.acts_alike.Goals as goal

pub returns-clause-named : goal.returns-clause-named
returns-clause-named c = named-acts-alike

pub returns-clause-above : goal.returns-clause-above
returns-clause-above c = acts-alike
