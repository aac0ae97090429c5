-- `put_all_unpacked` puts the messages one by one, each unpacked: so many of them are put.
use Rattle.std.proofs.Common.{◌*◌, refl, ap, arith, zero-add}
use Rattle.model_image_forms.specs.Places.{each_record}
use Rattle.model_image_forms.specs.Packing.{unpacked}
use Rattle.support_buffer.proofs.Puts.{none_gathered, one_more, all-gathered}
use Rattle.abt_image_mover.proofs.Parts.{part-is}
use Rattle.abt_image_mover.proofs.packing.put_all_unpacked.Goals as goal

pub loop-r-init : goal.loop-r-init
loop-r-init c = none_gathered _ _ 0 0 0 (omega arith) refl refl

pub loop-r-preserved : goal.loop-r-preserved
loop-r-preserved c = one_more c.loop-r.invariant _ _ c.put_unpacked.ensures (rw zero-add (ap unpacked (part-is (10 * c.loop-r.r) 10 c.args.s.now))) refl (omega arith)

pub returns : goal.returns
unfolding each_record
returns c = let last = c.loop-r.r in all-gathered c.loop-r.invariant _ _ (omega arith) (omega arith)
