-- `nogood_mask` is the mask of the stored reasons, from the last down: the mask of the own values above v.
use Rattle.std.proofs.Common.{◌<◌, refl, arith, eqb}
use Rattle.model_base.specs.Sets.{mask_from}
use Rattle.model_base.proofs.Masks.{byte-lt}
use Rattle.abt_image_reader.proofs.Masks.{next-mask, next_fits}
use Rattle.abt_image_reader.proofs.agents.nogood_mask.Goals as goal

pub loop-v-init : goal.loop-v-init
unfolding mask_from
loop-v-init c = refl

pub overflow_mul-mask : goal.overflow_mul-mask
overflow_mul-mask c =
    let room : c.loop-v.mask < 128 =
    next_fits c.args.s.now 18 c.loop-v.mask c.loop-v.v c.loop-v-test.true c.loop-v.invariant in
    record { fits = omega (arith, room) }

pub overflow_add-mask : goal.overflow_add-mask
overflow_add-mask c =
    let room : c.loop-v.mask < 128 =
    next_fits c.args.s.now 18 c.loop-v.mask c.loop-v.v c.loop-v-test.true c.loop-v.invariant in
    record { fits = omega (arith, room, c.from.ensures, byte-lt (eqb c.byte.result 1)) }

pub loop-v-preserved : goal.loop-v-preserved
loop-v-preserved c = rw c.from.ensures (next-mask c.args.s.now 18 _ c.loop-v.v _ c.loop-v-test.true (omega arith) c.loop-v.invariant c.byte.ensures)
