-- `one_more` adds one to a digit of a word.
-- The word with that digit changed.
use Rattle.std.proofs.Common.{arith}
use Rattle.abt_packed.proofs.Digits.{one_more}
use Rattle.abt_packed.proofs.one_more.Goals as goal

pub overflow_add-result : goal.overflow_add-result
overflow_add-result c = record { fits = (one_more c.args.x c.args.k (omega arith) c.requires.0 c.requires.1 c.requires.2).0 }

pub returns : goal.returns
returns c = (one_more c.args.x c.args.k (omega arith) c.requires.0 c.requires.1 c.requires.2).1
