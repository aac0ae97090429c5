-- `named` has 15 where a word's digit is not 0.
-- One bit of each such digit, times fifteen.
use Rattle.std.proofs.Common.{arith}
use Rattle.abt_packed.proofs.Wordwise.{named-marked}
use Rattle.abt_packed.proofs.named.Goals as goal

pub returns : goal.returns
returns c = (named-marked c.args.x (omega arith)).1
