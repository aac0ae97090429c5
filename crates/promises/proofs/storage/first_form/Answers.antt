-- Each clause is proved where its claim is stated; these are the proofs. Assumes nothing.
use Rattle.model_image.proofs.Theorems.{reads_first, one-first, reads-only-first}
use Rattle.model_image.proofs.Lengths.{image-length}
use Rattle.promises.proofs.storage.first_form.Goals as goal

pub returns-clause-reads : goal.returns-clause-reads
returns-clause-reads c = reads_first

pub returns-clause-one : goal.returns-clause-one
returns-clause-one c = one-first

pub returns-clause-only : goal.returns-clause-only
returns-clause-only c = reads-only-first

pub returns-clause-length : goal.returns-clause-length
returns-clause-length c = image-length
