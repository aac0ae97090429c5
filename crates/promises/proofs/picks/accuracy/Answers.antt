-- Each clause is proved where its claim is stated; these are the proofs. Assumes nothing.
use Rattle.theorems_dispatch.proofs.Theorems.{sheet-sound-with-picks, sound-with-picks, sheet-complete-with-picks, complete-with-picks}
use Rattle.promises.proofs.picks.accuracy.Goals as goal

pub returns-clause-sound : goal.returns-clause-sound
returns-clause-sound c = sheet-sound-with-picks

pub returns-clause-sound_of_problems : goal.returns-clause-sound_of_problems
returns-clause-sound_of_problems c = sound-with-picks

pub returns-clause-complete : goal.returns-clause-complete
returns-clause-complete c = sheet-complete-with-picks

pub returns-clause-complete_of_problems : goal.returns-clause-complete_of_problems
returns-clause-complete_of_problems c = complete-with-picks
