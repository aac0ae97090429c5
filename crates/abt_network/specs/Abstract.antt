-- Which network a value of the type is. A primed name is the definitions'.
use Rattle.std.specs.Prelude.{Result, Ok, Err}
use Rattle.support_rejection.specs.declared.Rejection.{Rejection}
use Rattle.model_network.specs.Network.{Network as Network'}
use Rattle.abt_record.specs.declared.Network.{Network as Record}
use Rattle.abt_record.specs.Abstract.{network_of as network_in}
use Rattle.abt_network.specs.declared.Network.{Network}

-- the network that its record means
abbrev pub network_of : Network → Network'
network_of n = network_in n.state

-- the record, or the rejection
abbrev pub record_of : Result Network Rejection → Result Record Rejection
record_of (Ok n) = Ok n.state
record_of (Err e) = Err e
