-- The verdict of the record, and what it tells.
use Rattle.std.proofs.Common.{refl}
use Rattle.abt_record.specs.Abstract.{network_of}
use Rattle.abt_network.proofs.Following.{stands}
use Rattle.abt_network.proofs.Network.is_unsolvable.Goals as goal

pub returns : goal.returns
unfolding network_of
returns c = record { verdict = refl; stands = stands _ }
