-- `unpack` puts a word together from three.
use Rattle.std.proofs.Common.{refl}
use Rattle.abt_agent.specs.Abstract.{unpacked}
use Rattle.abt_agent.proofs.PackedAssignment.unpack.Goals as goal

pub returns : goal.returns
unfolding unpacked
returns c = refl
