-- Each clause is proved where its claim is stated; these are the proofs. Assumes nothing.
use Rattle.theorems_network.proofs.Theorems.{jammed-exactly, none-after-nothing, rounds-used}
use Rattle.promises.proofs.calls.endings.Goals as goal

pub returns-clause-jammed : goal.returns-clause-jammed
returns-clause-jammed c = jammed-exactly

pub returns-clause-at_once : goal.returns-clause-at_once
returns-clause-at_once c = none-after-nothing

pub returns-clause-used : goal.returns-clause-used
returns-clause-used c = rounds-used
