-- Each clause is proved where its claim is stated; these are the proofs. Assumes nothing.
use Rattle.theorems_network.proofs.Theorems.{replays}
use Rattle.promises.proofs.Beside.{waits-as-held}
use Rattle.promises.proofs.calls.replayed.Goals as goal

pub returns-clause-replay : goal.returns-clause-replay
returns-clause-replay c = replays

pub returns-clause-waits : goal.returns-clause-waits
returns-clause-waits c = waits-as-held
