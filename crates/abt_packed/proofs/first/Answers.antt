-- `first` is the lowest-numbered agent of a set.
-- The zeros at the mask's low end.
use Rattle.std.proofs.Common.{arith}
use Rattle.abt_packed.proofs.Ends.{first_member}
use Rattle.abt_packed.proofs.first.Goals as goal

pub returns : goal.returns
returns c = first_member c.args.set c.requires (omega arith)
