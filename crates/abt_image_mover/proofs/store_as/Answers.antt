-- Every network of the code is one that its image gives back. Assumes nothing.
use Rattle.abt_image_reader.proofs.Owned.{network-fits}
use Rattle.abt_image_reader.proofs.Plainness.{network_of-plain}
use Rattle.abt_image_mover.proofs.store_as.Goals as goal

pub returns-in-First-clause-plain : goal.returns-in-First-clause-plain
returns-in-First-clause-plain c = network_of-plain c.args.r (network-fits c.args.r _ c.well_formed.1.0)

pub returns-in-Second-clause-plain : goal.returns-in-Second-clause-plain
returns-in-Second-clause-plain c = network_of-plain c.args.r (network-fits c.args.r _ c.well_formed.1.0)
