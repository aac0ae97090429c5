-- What a dispatcher's count and place mean, above a network. A primed name is the definitions'.
use Rattle.model_network.specs.Network.{Network as Network'}
use Rattle.model_dispatch.specs.Dispatch.{Dispatcher as Dispatcher'}
use Rattle.abt_dispatch.specs.Abstract.{line_of}
use Rattle.abt_network.specs.declared.picks.Dispatch.{Dispatch}

-- the dispatcher above w with this count and this place
abbrev pub dispatcher_of : Network' → Dispatch → Dispatcher'
dispatcher_of w d = record { network = w; picks = d.picks; place = line_of d.place }
