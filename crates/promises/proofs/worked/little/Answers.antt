-- Each clause is proved where its claim is stated; these are the proofs. Assumes nothing.
use Rattle.model_little.proofs.Cases.{cases-hold, puts-hold}
use Rattle.promises.proofs.worked.little.Goals as goal

pub returns-clause-sheets : goal.returns-clause-sheets
returns-clause-sheets c = cases-hold

pub returns-clause-put : goal.returns-clause-put
returns-clause-put c = puts-hold
