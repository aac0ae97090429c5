-- `put_unpacked` puts the bytes before the left side, and both halves of each of the six bytes.
use Rattle.std.proofs.Common.{◌+◌, ◌*◌, ◌/◌, ◌%◌, [], ◌∷◌, get_or}
use Rattle.support_buffer.proofs.Puts.{Gathered}
use Rattle.abt_image_mover.proofs.packing.put_unpacked.Given as goal

abbrev pub invariant-loop-slots : goal.invariant-loop-slots
invariant-loop-slots l =
    Gathered l.initial.out (2 * l.slots-index) (λ i. get_or l.m (4 + i) 0 % 16 ∷ get_or l.m (4 + i) 0 / 16 ∷ []) 0 l.slots-index l.out
