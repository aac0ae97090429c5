-- Each clause is proved where its claim is stated; these are the proofs. Assumes nothing.
use Rattle.theorems_editions.proofs.Theorems.{refused-as-said}
use Rattle.promises.proofs.editions.refused.Goals as goal

pub returns : goal.returns
returns c = record { as_said = refused-as-said }
