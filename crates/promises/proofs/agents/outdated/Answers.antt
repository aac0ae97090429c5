-- Each clause is proved where its claim is stated; these are the proofs. Assumes nothing.
use Rattle.promises.proofs.Beside.{outdated-answered}
use Rattle.promises.proofs.agents.outdated.Goals as goal

pub returns : goal.returns
returns c = record { answered = outdated-answered }
