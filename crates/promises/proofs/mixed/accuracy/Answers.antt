-- Each clause is proved where its claim is stated; these are the proofs. Assumes nothing.
use Rattle.theorems_lists.proofs.Theorems.{sheet-sound-mixed, sound-mixed, sheet-complete-mixed, complete-mixed}
use Rattle.promises.proofs.mixed.accuracy.Goals as goal

pub returns-clause-sound : goal.returns-clause-sound
returns-clause-sound c = sheet-sound-mixed

pub returns-clause-sound_of_problems : goal.returns-clause-sound_of_problems
returns-clause-sound_of_problems c = sound-mixed

pub returns-clause-complete : goal.returns-clause-complete
returns-clause-complete c = sheet-complete-mixed

pub returns-clause-complete_of_problems : goal.returns-clause-complete_of_problems
returns-clause-complete_of_problems c = complete-mixed
