-- `put_by_place` puts the bytes place by place.
use Rattle.std.proofs.Common.{◌≡◌, refl, arith, zero-add, zero-mul}
use Rattle.model_image_forms.specs.Places.{by_place}
use Rattle.support_buffer.proofs.Puts.{none_gathered, one_more, all-gathered}
use Rattle.abt_image_mover.proofs.places.Records.put_by_place.Goals as goal

pub loop-place-init : goal.loop-place-init
loop-place-init c = none_gathered _ _ _ 0 0 (omega arith) refl (zero-mul c.args.self.now.count)

pub loop-place-preserved : goal.loop-place-preserved
loop-place-preserved c = one_more c.loop-place.invariant _ _ c.put_place.ensures (rw zero-add refl) refl (omega arith)

pub returns : goal.returns
unfolding by_place
returns c =
    let last : c.loop-place.place ≡ c.args.self.now.width = omega arith in
    all-gathered c.loop-place.invariant _ _ last (rw last refl)
