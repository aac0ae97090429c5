-- Each clause is proved where its claim is stated; these are the proofs. Assumes nothing.
use Rattle.theorems_image.proofs.Theorems.{sheet-carries-across, carries-across, carries-across-anywhere, reads-with-room}
use Rattle.promises.proofs.storage.carried.Goals as goal

pub returns-clause-across : goal.returns-clause-across
returns-clause-across c = sheet-carries-across

pub returns-clause-across_of_problems : goal.returns-clause-across_of_problems
returns-clause-across_of_problems c = carries-across

pub returns-clause-anywhere : goal.returns-clause-anywhere
returns-clause-anywhere c = carries-across-anywhere

pub returns-clause-with_room : goal.returns-clause-with_room
returns-clause-with_room c = reads-with-room
