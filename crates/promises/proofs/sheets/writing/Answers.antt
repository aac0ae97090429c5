-- Each clause is proved where its claim is stated; these are the proofs. Assumes nothing.
use Rattle.promises.proofs.Beside.{writing-accepted, writing-banned}
use Rattle.promises.proofs.sheets.writing.Goals as goal

pub returns-clause-accepted : goal.returns-clause-accepted
returns-clause-accepted c = writing-accepted

pub returns-clause-bans : goal.returns-clause-bans
returns-clause-bans c = writing-banned
