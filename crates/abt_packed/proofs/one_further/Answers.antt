-- `one_further` takes a digit of a word one further round a ring of eight.
-- The digit is taken modulo 8, one more is added, and it is taken modulo 8 again.
use Rattle.std.proofs.Common.{arith}
use Rattle.abt_packed.proofs.Wordwise.{room-left, one_further}
use Rattle.abt_packed.proofs.one_further.Goals as goal

pub one_more-requires : goal.one_more-requires
one_more-requires c = (c.requires.0, c.requires.1, room-left c.args.x c.args.k (omega arith) c.requires.0 c.requires.1)

pub returns : goal.returns
returns c = one_further c.args.x c.args.k c.one_more.result (omega arith) (omega arith) c.requires.0 c.requires.1 c.one_more.ensures
