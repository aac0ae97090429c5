-- `put_place` puts the bytes at one place, record by record.
use Rattle.std.proofs.Common.{◌+◌, ◌*◌, [], ◌∷◌, get_or}
use Rattle.support_buffer.proofs.Puts.{Gathered}
use Rattle.abt_image_mover.proofs.places.Records.put_place.Given as goal

abbrev pub invariant-loop-r : goal.invariant-loop-r
invariant-loop-r l = Gathered l.initial.out l.r (λ r. get_or l.self.bytes.now (l.self.width * r + l.place) 0 ∷ []) 0 l.r l.out
