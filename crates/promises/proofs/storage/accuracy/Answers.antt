-- Each clause is proved where its claim is stated; these are the proofs. Assumes nothing.
use Rattle.theorems_image.proofs.Theorems.{sheet-sound-across, sound-across, sheet-complete-across, complete-across}
use Rattle.promises.proofs.storage.accuracy.Goals as goal

pub returns-clause-sound : goal.returns-clause-sound
returns-clause-sound c = sheet-sound-across

pub returns-clause-sound_of_problems : goal.returns-clause-sound_of_problems
returns-clause-sound_of_problems c = sound-across

pub returns-clause-complete : goal.returns-clause-complete
returns-clause-complete c = sheet-complete-across

pub returns-clause-complete_of_problems : goal.returns-clause-complete_of_problems
returns-clause-complete_of_problems c = complete-across
