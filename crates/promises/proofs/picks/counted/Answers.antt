-- Each clause is proved where its claim is stated; these are the proofs. Assumes nothing.
use Rattle.model_dispatch.proofs.Theorems.{picks-counted, picks-deliver}
use Rattle.promises.proofs.picks.counted.Goals as goal

pub returns-clause-counted : goal.returns-clause-counted
returns-clause-counted c = picks-counted

pub returns-clause-delivered : goal.returns-clause-delivered
returns-clause-delivered c = picks-deliver
