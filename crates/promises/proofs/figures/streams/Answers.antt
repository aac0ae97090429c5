-- Each clause is proved where its claim is stated; these are the proofs. Assumes nothing.
use Rattle.model_season.proofs.Theorems.{reads-stream, reads-no-more}
use Rattle.promises.proofs.figures.streams.Goals as goal

pub returns-clause-read : goal.returns-clause-read
returns-clause-read c = reads-stream

pub returns-clause-no_more : goal.returns-clause-no_more
returns-clause-no_more c = reads-no-more
