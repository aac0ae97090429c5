-- Each clause is proved where its claim is stated; these are the proofs. Assumes nothing.
use Rattle.theorems_lists.proofs.Theorems.{named-acts-alike-mixed, acts-alike-mixed}
use Rattle.promises.proofs.mixed.acts_alike.Goals as goal

pub returns-clause-named : goal.returns-clause-named
returns-clause-named c = named-acts-alike-mixed

pub returns-clause-above : goal.returns-clause-above
returns-clause-above c = acts-alike-mixed
