-- Each clause is proved where its claim is stated; these are the proofs. Assumes nothing.
use Rattle.promises.proofs.Beside.{first-worked, forms-worked}
use Rattle.promises.proofs.worked.images.Goals as goal

pub returns-clause-first : goal.returns-clause-first
returns-clause-first c = first-worked

pub returns-clause-forms : goal.returns-clause-forms
returns-clause-forms c = forms-worked
