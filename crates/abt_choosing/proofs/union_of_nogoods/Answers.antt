-- `union_of_nogoods` lays the left sides stored over each other.
-- Value by value, upward. The invariant: those of the first so many.
use Rattle.std.proofs.Common.{◌+◌, ◌/◌, ◌^◌, ◌≡◌, sym, div-one, add-one, arith, length, get_or, take}
use Rattle.std.proofs.lemmas.List.{get_or-take, length-take-le}
use Rattle.model_base.proofs.Bits.{half}
use Rattle.abt_choosing.proofs.Blaming.{overlaid-none, overlaid-stored, overlaid-other}
use Rattle.abt_choosing.proofs.union_of_nogoods.Goals as goal
use Rattle.abt_choosing.proofs.union_of_nogoods.Goals.{else-rest-eq1, then-rest-eq1}

pub loop-nogood-init : goal.loop-nogood-init
loop-nogood-init c = (overlaid-none c.args.nogood_mask c.args.nogoods.now, sym (div-one _))

pub loop-nogood-preserved : goal.loop-nogood-preserved
loop-nogood-preserved c =
    let loop = c.loop-nogood in
    let i = loop.nogood-index in
    let long : length (take c.args.domain c.args.nogoods.now) ≡ c.args.domain = length-take-le _ _ (omega (arith, c.told-nogoods, c.requires)) in
    let here : get_or (take c.args.domain c.args.nogoods.now) i 0 ≡ get_or c.args.nogoods.now i 0 = get_or-take _ _ i 0 (omega (arith, long, c.loop-nogood-test.true)) in
    let halved : loop.rest / 2 ≡ c.args.nogood_mask / 2 ^ (i + 1) = rw (loop.invariant.1, add-one i, half c.args.nogood_mask i) in
    elim c.if-rest-eq1.branch [
      | then-rest-eq1 u ↦ rw u.all-is (
        rw (add-one i, here) (overlaid-stored c.args.nogood_mask c.args.nogoods.now i loop.all (rw loop.invariant.1 at u.if-rest-eq1.true) loop.invariant.0),
        halved,
      )
      | else-rest-eq1 u ↦ rw u.all-is (
        rw (add-one i) (overlaid-other c.args.nogood_mask c.args.nogoods.now i loop.all (rw loop.invariant.1 at u.if-rest-eq1.false) loop.invariant.0),
        halved,
      )
    ]
