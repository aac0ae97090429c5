-- Each clause is proved where its claim is stated; these are the proofs. Assumes nothing.
use Rattle.theorems_image.proofs.Theorems.{sheet-reached-plain, reached-plain, stays_plain}
use Rattle.promises.proofs.storage.plain.Goals as goal

pub returns-clause-reached : goal.returns-clause-reached
returns-clause-reached c = sheet-reached-plain

pub returns-clause-reached_of_problems : goal.returns-clause-reached_of_problems
returns-clause-reached_of_problems c = reached-plain

pub returns-clause-stays : goal.returns-clause-stays
returns-clause-stays c = stays_plain
