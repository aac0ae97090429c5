-- Each clause is proved where its claim is stated; these are the proofs. Assumes nothing.
use Rattle.model_image_forms.proofs.Theorems.{moves-back, moves-through}
use Rattle.promises.proofs.Beside.{moved-form}
use Rattle.promises.proofs.storage.moved.Goals as goal

pub returns-clause-back : goal.returns-clause-back
returns-clause-back c = moves-back

pub returns-clause-through : goal.returns-clause-through
returns-clause-through c = moves-through

pub returns-clause-form : goal.returns-clause-form
returns-clause-form c = moved-form
