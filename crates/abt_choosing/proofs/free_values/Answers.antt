-- `free_values` is the mask of the values that are left free.
-- Bit by bit: a law of masks.
use Rattle.std.proofs.Common.{arith}
use Rattle.abt_choosing.proofs.LeftFree.{free-mask}
use Rattle.abt_choosing.proofs.free_values.Goals as goal

pub returns : goal.returns
returns c = free-mask c.args.nogood_mask _ _ c.args.conflicts (omega arith) (omega arith) c.requires.few c.all.ensures
