-- Each clause is proved where its claim is stated; these are the proofs. Assumes nothing.
use Rattle.promises.proofs.Beside.{counts-unread}
use Rattle.promises.proofs.agents.counts.Goals as goal

pub returns : goal.returns
returns c = record { unread = counts-unread }
