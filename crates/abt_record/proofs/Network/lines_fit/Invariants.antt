-- The lines of the senders before the k-th are in shape, and those of the k-th that are not left any more.
use Rattle.abt_record.proofs.Passing.{Passed, Passing, Ahead}
use Rattle.abt_shape.specs.Frames.{Framing}
use Rattle.abt_record.specs.Abstract.{network_of}
use Rattle.abt_record.proofs.Network.lines_fit.Given as goal

abbrev pub invariant-loop-k : goal.invariant-loop-k
invariant-loop-k l = Framing (network_of l.self) l.frame → Passed l.self l.k

abbrev pub invariant-loop-to : goal.invariant-loop-to
invariant-loop-to l = Ahead l.self l.from l.to-iterator.0 × (Framing (network_of l.self) l.frame → Passing l.self l.from l.to-iterator.0)
