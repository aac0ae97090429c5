-- `pack` takes a word apart into three.
use Rattle.std.proofs.Common.{arith}
use Rattle.abt_agent.specs.Abstract.{unpacked}
use Rattle.abt_agent.proofs.Assignment.pack.Goals as goal

pub returns : goal.returns
unfolding unpacked
returns c = omega arith
