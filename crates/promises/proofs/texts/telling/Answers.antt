-- Each clause is proved where its claim is stated; these are the proofs. Assumes nothing.
use Rattle.theorems_text.proofs.Theorems.{texts-read-again, texts-short}
use Rattle.promises.proofs.texts.telling.Goals as goal

pub returns-clause-again : goal.returns-clause-again
returns-clause-again c = texts-read-again

pub returns-clause-short : goal.returns-clause-short
returns-clause-short c = texts-short
