-- `put_all_unpacked` puts the messages one by one, each unpacked: so many of them are put.
use Rattle.std.proofs.Common.{◌*◌}
use Rattle.model_image.specs.Bytes.{stretch}
use Rattle.model_image_forms.specs.Packing.{unpacked}
use Rattle.support_buffer.proofs.Puts.{Gathered}
use Rattle.abt_image_mover.proofs.packing.put_all_unpacked.Given as goal

abbrev pub invariant-loop-r : goal.invariant-loop-r
invariant-loop-r l = Gathered l.initial.out (16 * l.r) (λ r. unpacked (stretch (10 * r) 10 l.s)) 0 l.r l.out
