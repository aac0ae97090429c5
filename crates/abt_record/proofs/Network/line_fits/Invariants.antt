-- What is asked of the line is asked of the messages that are left; a request was asked for, where the receiver informs the sender.
use Rattle.std.proofs.Common.{◌≡◌, true}
use Rattle.abt_shape.specs.Frames.{Framing}
use Rattle.model_network.specs.Shape.{channel_in_shape}
use Rattle.abt_record.specs.Abstract.{network_of}
use Rattle.abt_record.specs.Looking.{left_fits}
use Rattle.abt_record.proofs.Network.line_fits.Given as goal

abbrev pub invariant-loop-ahead : goal.invariant-loop-ahead
invariant-loop-ahead l =
    Framing (network_of l.self) l.frame
    → (channel_in_shape (network_of l.self) l.from l.to ≡ left_fits l.self l.from l.to l.ahead l.asked)
    × (((network_of l.self).agents l.to).informs l.from ≡ true → l.asked ≡ true)
