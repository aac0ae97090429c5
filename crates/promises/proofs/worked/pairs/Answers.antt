-- Each clause is proved where its claim is stated; these are the proofs. Assumes nothing.
use Rattle.theorems_isolation.proofs.Nights.{nights-hold}
use Rattle.promises.proofs.worked.pairs.Goals as goal

pub returns : goal.returns
returns c = record { alike = nights-hold }
