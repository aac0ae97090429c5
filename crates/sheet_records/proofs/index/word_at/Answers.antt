-- `word_at` is the definition's index of a pair's word, one of 66.
-- By the closed form of 0 + 1 + .. + (j - 2).
use Rattle.std.proofs.Common.{arith}
use Rattle.sheet_records.proofs.Table.{word-index, products}
use Rattle.sheet_records.proofs.index.word_at.Goals as goal

pub returns : goal.returns
returns c = (word-index c.args.i c.args.j c.requires.0 c.requires.1, omega (arith, products c.args.j c.requires.2))
