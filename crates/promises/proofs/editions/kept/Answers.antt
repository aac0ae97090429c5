-- Each clause is proved where its claim is stated; these are the proofs. Assumes nothing.
use Rattle.theorems_editions.proofs.Theorems.{bans-kept, gaps-kept}
use Rattle.promises.proofs.editions.kept.Goals as goal

pub returns-clause-bans : goal.returns-clause-bans
returns-clause-bans c = bans-kept

pub returns-clause-gaps : goal.returns-clause-gaps
returns-clause-gaps c = gaps-kept
