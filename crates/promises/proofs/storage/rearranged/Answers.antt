-- Each clause is proved where its claim is stated; these are the proofs. Assumes nothing.
use Rattle.model_image_forms.proofs.Places.{laid-back}
use Rattle.promises.proofs.Beside.{large-of-small}
use Rattle.promises.proofs.storage.rearranged.Goals as goal

pub returns-clause-laid_back : goal.returns-clause-laid_back
returns-clause-laid_back c = laid-back

pub returns-clause-large : goal.returns-clause-large
returns-clause-large c = large-of-small
