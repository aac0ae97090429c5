-- `pack_all` puts the messages one by one, each packed: so many of them are put.
use Rattle.std.proofs.Common.{◌*◌}
use Rattle.model_image.specs.Bytes.{stretch}
use Rattle.model_image_forms.specs.Packing.{packed}
use Rattle.support_buffer.proofs.Puts.{Gathered}
use Rattle.abt_image_mover.proofs.packing.pack_all.Given as goal

abbrev pub invariant-loop-r : goal.invariant-loop-r
invariant-loop-r l = Gathered l.initial.next (10 * l.r) (λ r. packed (stretch (16 * r) 16 l.s)) 0 l.r l.next
