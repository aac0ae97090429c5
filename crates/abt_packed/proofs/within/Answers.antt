-- `within` is whether each digit of a word is 0 or the same in another.
-- The other word's digits, where the word names somebody, are the word.
use Rattle.std.proofs.Common.{arith}
use Rattle.abt_packed.proofs.Wordwise.{within-is}
use Rattle.abt_packed.proofs.within.Goals as goal

pub returns : goal.returns
returns c = within-is c.args.x c.args.y c.named.result (omega arith) (omega arith) c.named.ensures
