-- `first_digit` is the lowest digit that is not 0.
-- The zeros at the word's low end.
use Rattle.std.proofs.Common.{arith}
use Rattle.abt_packed.proofs.Ends.{first-named}
use Rattle.abt_packed.proofs.first_digit.Goals as goal

pub returns : goal.returns
returns c = first-named c.args.x c.requires (omega arith)
