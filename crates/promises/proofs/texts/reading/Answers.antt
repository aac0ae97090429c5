-- Each clause is proved where its claim is stated; these are the proofs. Assumes nothing.
use Rattle.theorems_text.proofs.Theorems.{sheets-accepted, slots-as-written, bans-as-written, judged-by-front}
use Rattle.promises.proofs.texts.reading.Goals as goal

pub returns-clause-accepted : goal.returns-clause-accepted
returns-clause-accepted c = sheets-accepted

pub returns-clause-slots : goal.returns-clause-slots
returns-clause-slots c = slots-as-written

pub returns-clause-bans : goal.returns-clause-bans
returns-clause-bans c = bans-as-written

pub returns-clause-front : goal.returns-clause-front
returns-clause-front c = judged-by-front
