-- `names` is the set of the agents that a word names.
-- One bit of each digit, drawn together.
use Rattle.std.proofs.Common.{arith}
use Rattle.abt_packed.proofs.Wordwise.{joined, marks}
use Rattle.abt_packed.proofs.Gathering.{drawn, gathered, gathered-named}
use Rattle.abt_packed.proofs.names.Goals as goal

pub returns : goal.returns
unfolding joined marks drawn gathered
returns c = gathered-named c.args.x (omega arith)
