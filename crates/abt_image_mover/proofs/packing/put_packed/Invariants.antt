-- `put_packed` puts the bytes before the left side, and the twelve slots of the left side two by two.
use Rattle.std.proofs.Common.{suc, ◌+◌, ◌*◌, [], ◌∷◌, get_or}
use Rattle.support_buffer.proofs.Puts.{Gathered}
use Rattle.abt_image_mover.proofs.packing.put_packed.Given as goal

abbrev pub invariant-loop-i : goal.invariant-loop-i
invariant-loop-i l = Gathered l.initial.out l.i (λ i. (get_or l.m (4 + 2 * i) 0 + 16 * get_or l.m (4 + suc (2 * i)) 0) ∷ []) 0 l.i l.out
