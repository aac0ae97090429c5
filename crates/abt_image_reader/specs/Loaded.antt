-- What the reader's answer means: the network, or why there is none. A primed name is the definitions'.
use Rattle.std.specs.Prelude.{Result, Ok, Err}
use Rattle.model_network.specs.Network.{empty_network}
use Rattle.support_rejection.specs.declared.Rejection.{Rejection}
use Rattle.support_rejection.specs.Rejections.{rejection_number}
use Rattle.abt_record.specs.declared.Network.{Network}
use Rattle.abt_record.specs.Abstract.{network_of}
use Rattle.model_image.specs.Reading.{Loaded as Loaded'}

unfoldable pub loaded_of : Result Network Rejection → Loaded'
loaded_of (Ok r) = record { number = 0; network = network_of r }
loaded_of (Err e) = record { number = rejection_number e; network = empty_network }
