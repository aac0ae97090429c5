-- Each clause is proved where its claim is stated; these are the proofs. Assumes nothing.
use Rattle.model_season.proofs.Theorems.{any_order, streams-in-any-order}
use Rattle.promises.proofs.figures.ordered.Goals as goal

pub returns-clause-sheets : goal.returns-clause-sheets
returns-clause-sheets c = any_order

pub returns-clause-streams : goal.returns-clause-streams
returns-clause-streams c = streams-in-any-order
