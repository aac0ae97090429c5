-- Each clause is proved where its claim is stated; these are the proofs. Assumes nothing.
use Rattle.model_season.proofs.Theorems.{capped-in-turn, never-capped}
use Rattle.promises.proofs.figures.capped.Goals as goal

pub returns-clause-in_turn : goal.returns-clause-in_turn
returns-clause-in_turn c = capped-in-turn

pub returns-clause-never : goal.returns-clause-never
returns-clause-never c = never-capped
