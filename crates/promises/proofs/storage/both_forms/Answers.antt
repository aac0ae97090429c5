-- Each clause is proved where its claim is stated; these are the proofs. Assumes nothing.
use Rattle.model_image_forms.proofs.Theorems.{reads-back, one-rail, reads-only-images, image-length}
use Rattle.promises.proofs.storage.both_forms.Goals as goal

pub returns-clause-reads : goal.returns-clause-reads
returns-clause-reads c = reads-back

pub returns-clause-one : goal.returns-clause-one
returns-clause-one c = one-rail

pub returns-clause-only : goal.returns-clause-only
returns-clause-only c = reads-only-images

pub returns-clause-length : goal.returns-clause-length
returns-clause-length c = image-length
