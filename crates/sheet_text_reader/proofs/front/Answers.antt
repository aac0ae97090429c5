-- What is not longer is taken whole. Assumes nothing.
use Rattle.sheet_text_reader.proofs.Walked.{front-is}
use Rattle.sheet_text_reader.proofs.front.Goals as goal

pub returns : goal.returns
returns c = front-is c.args.text.now _ c.min.ensures
