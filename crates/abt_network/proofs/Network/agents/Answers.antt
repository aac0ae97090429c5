-- The count of the record, which the shape bounds.
use Rattle.std.proofs.Common.{refl}
use Rattle.abt_record.specs.Abstract.{problem_of, network_of}
use Rattle.abt_network.proofs.Shaping.{few-agents}
use Rattle.abt_network.proofs.Network.agents.Goals as goal

pub returns : goal.returns
unfolding network_of problem_of
returns c = record { count = refl; in_range = few-agents (network_of c.args.self.now.state) c.args.self.now.shaped }
