-- Each clause is proved where its claim is stated; these are the proofs. Assumes nothing.
use Rattle.model_editions.proofs.Cases.{cases-hold, puts-hold}
use Rattle.promises.proofs.worked.editions.Goals as goal

pub returns-clause-turned : goal.returns-clause-turned
returns-clause-turned c = cases-hold

pub returns-clause-put : goal.returns-clause-put
returns-clause-put c = puts-hold
