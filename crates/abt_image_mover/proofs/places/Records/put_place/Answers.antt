-- `put_place` puts the bytes at one place, record by record.
use Rattle.std.proofs.Common.{refl, arith, zero-add}
use Rattle.support_buffer.proofs.Puts.{none_gathered, one_more}
use Rattle.abt_image_mover.proofs.places.Records.put_place.Goals as goal

pub loop-r-init : goal.loop-r-init
loop-r-init c = none_gathered _ _ 0 0 0 (omega arith) refl refl

pub loop-r-preserved : goal.loop-r-preserved
loop-r-preserved c = one_more c.loop-r.invariant _ _ c.put.ensures (rw zero-add refl) refl refl
