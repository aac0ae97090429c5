-- `put_slots` puts the digits of agents 1 to 12, upward: those below k are put.
use Rattle.std.proofs.Common.{[], ◌∷◌, ◌-◌}
use Rattle.abt_packed.specs.Packed.{assignment}
use Rattle.support_buffer.proofs.Puts.{Gathered}
use Rattle.abt_image_writer.proofs.slots.put_slots.Given as goal

abbrev pub invariant-loop-k : goal.invariant-loop-k
invariant-loop-k l = Gathered l.initial.out (l.k - 1) (λ k. assignment l.word k ∷ []) 1 (l.k - 1) l.out
