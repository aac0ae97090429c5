-- `pack_all` puts the messages one by one, each packed: so many of them are put.
use Rattle.std.proofs.Common.{◌*◌, ◌/◌, refl, ap, arith, length, rules, zero-add}
use Rattle.model_image_forms.specs.Places.{each_record}
use Rattle.model_image_forms.specs.Packing.{packed}
use Rattle.support_buffer.proofs.Puts.{none_gathered, one_more, all-gathered}
use Rattle.abt_image_mover.proofs.Parts.{part-is}
use Rattle.abt_image_mover.proofs.packing.pack_all.Goals as goal

pub loop-r-init : goal.loop-r-init
loop-r-init c = none_gathered _ _ 0 0 0 (omega arith) refl refl

pub loop-r-preserved : goal.loop-r-preserved
loop-r-preserved c = one_more c.loop-r.invariant _ _ c.put_packed.ensures (rw zero-add (ap packed (part-is (16 * c.loop-r.r) 16 c.args.s.now))) refl (omega arith)

pub returns : goal.returns
unfolding each_record
returns c =
    let all = all-gathered c.loop-r.invariant (10 * (length c.args.s.now / 16)) (length c.args.s.now / 16) (omega arith) (omega arith) in
    search (rules, all.put, all.same)
