-- Each clause is proved where its claim is stated; these are the proofs. Assumes nothing.
use Rattle.model_dispatch.proofs.Theorems.{served-in-time, heads-stay}
use Rattle.promises.proofs.picks.served.Goals as goal

pub returns-clause-in_time : goal.returns-clause-in_time
returns-clause-in_time c = served-in-time

pub returns-clause-heads_stay : goal.returns-clause-heads_stay
returns-clause-heads_stay c = heads-stay
