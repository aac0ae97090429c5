-- Each clause is proved where its claim is stated; these are the proofs. Assumes nothing.
use Rattle.theorems_network.proofs.Theorems.{sheet-sound, sound-at-rest, sheet-complete, complete-verdict}
use Rattle.promises.proofs.calls.accuracy.Goals as goal

pub returns-clause-sound : goal.returns-clause-sound
returns-clause-sound c = sheet-sound

pub returns-clause-sound_of_problems : goal.returns-clause-sound_of_problems
returns-clause-sound_of_problems c = sound-at-rest

pub returns-clause-complete : goal.returns-clause-complete
returns-clause-complete c = sheet-complete

pub returns-clause-complete_of_problems : goal.returns-clause-complete_of_problems
returns-clause-complete_of_problems c = complete-verdict
