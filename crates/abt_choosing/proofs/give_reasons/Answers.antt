-- `give_reasons` gives the reasons of the values tried, and joins the left sides on the way.
-- Value by value, upward. The invariant: the first i have theirs, and the figure is the union of that many.
use Rattle.std.proofs.Common.{◌+◌, ◌/◌, ◌%◌, ◌^◌, ◌<◌, ◌≡◌, sym, ◌≢◌, div-one, add-one, arith, length-set}
use Rattle.model_base.proofs.Bits.{half}
use Rattle.model_agent.specs.Shape.{max_named}
use Rattle.abt_packed.specs.Packed.{assignment}
use Rattle.abt_choosing.proofs.Reasons.{reasons-none, reasons-kept, barred-by, reasons-given, joined-none, joined-kept, joined-given}
use Rattle.abt_choosing.proofs.give_reasons.Goals as goal
use Rattle.abt_choosing.proofs.give_reasons.Goals.{In-loop-i, Else-rest-eq1, then-rest-eq1, else-rest-eq1}

-- the value tried is one of the domain's
room : (c : In-loop-i) → c.loop-i.i < c.args.own.domain
room c = omega (arith, c.requires.none_free.1, c.loop-i-test.true)

-- .. and has no stored reason
lacks : (c : Else-rest-eq1) → c.args.nogood_mask / 2 ^ c.loop-i.i % 2 ≡ 0
lacks c =
    let other : c.args.nogood_mask / 2 ^ c.loop-i.i % 2 ≢ 1 = rw c.loop-i.invariant.3 at c.if-rest-eq1.false in
    omega (arith, other)

pub loop-i-init : goal.loop-i-init
loop-i-init c = (c.requires.none_free.0, reasons-none _ _ _ _ c.requires.coherent, joined-none _, sym (div-one _))

pub agent_to_blame-k-requires-clause-barred : goal.agent_to_blame-k-requires-clause-barred
agent_to_blame-k-requires-clause-barred c =
    let i = c.loop-i.i in
    let few = room (goal.at.agent_to_blame-k-requires-clause-barred c).In-loop-i in (
      omega arith,
      omega (arith, few, c.requires.own_fits.few),
      rw (add-one i)
          (barred-by c.args.own (assignment c.args.view) c.args.conflicts c.args.nogood_mask c.args.nogoods.now i
          c.requires.own_fits few (lacks (goal.at.agent_to_blame-k-requires-clause-barred c).Else-rest-eq1) c.args.tried c.requires.none_free.2 c.loop-i-test.true),
    )

pub digit-requires : goal.digit-requires
unfolding max_named
digit-requires c = (c.agent_to_blame-k.ensures.0, c.agent_to_blame-k.ensures.1)

pub with_digit-lhs-requires : goal.with_digit-lhs-requires
unfolding max_named
with_digit-lhs-requires c = (c.agent_to_blame-k.ensures.0, c.agent_to_blame-k.ensures.1, c.digit.ensures.1)

pub loop-i-preserved : goal.loop-i-preserved
loop-i-preserved c =
    let loop = c.loop-i in
    let own = c.args.own in
    let view = assignment c.args.view in
    let old = c.args.nogoods.now in
    let few = room (goal.at.loop-i-preserved c).In-loop-i in
    let narrow : c.if-rest-eq1.lhs < 2 ^ 64 = omega arith in
    let half-left : loop.rest / 2 ≡ c.args.nogood_mask / 2 ^ (loop.i + 1) =
    rw (loop.invariant.3, add-one loop.i, half c.args.nogood_mask loop.i) in
    elim c.if-rest-eq1.branch [
      | then-rest-eq1 u ↦
          let one : c.args.nogood_mask / 2 ^ loop.i % 2 ≡ 1 = rw loop.invariant.3 at u.if-rest-eq1.true in
          let has : c.args.nogood_mask / 2 ^ loop.i % 2 ≢ 0 = omega (arith, one) in
          rw (u.nogoods-is, u.reasoned-is) (
            loop.invariant.0,
            reasons-kept own view c.args.conflicts c.args.nogood_mask old loop.i c.requires.own_fits few _ has loop.invariant.1,
            joined-kept own view c.args.conflicts c.args.nogood_mask old loop.i loop.reasoned loop.nogoods loop.resolvent
                _ (omega (arith, few, c.requires.own_fits.few)) loop.invariant.1 loop.invariant.2 (omega arith) narrow has u.lhs-is,
            half-left,
          )
      | else-rest-eq1 u ↦
          let other : c.args.nogood_mask / 2 ^ loop.i % 2 ≢ 1 = rw loop.invariant.3 at u.if-rest-eq1.false in
          let is = rw u.digit.ensures.0 at u.with_digit-lhs.ensures in
          let more =
          reasons-given own view c.args.conflicts c.args.nogood_mask old loop.i c.requires.own_fits few (omega (arith, other)) u.agent_to_blame-k.result
          u.with_digit-lhs.result loop.reasoned loop.nogoods loop.invariant.0 u.agent_to_blame-k.ensures is loop.invariant.1 in
          rw (u.nogoods-is, u.reasoned-is, u.lhs-is) (
            simp length-set loop.invariant.0,
            more,
            joined-given own view c.args.conflicts c.args.nogood_mask old loop.i loop.reasoned loop.nogoods loop.resolvent
                u.with_digit-lhs.result (omega (arith, few, c.requires.own_fits.few)) loop.invariant.1 loop.invariant.2 (omega arith) (rw u.lhs-is at narrow) loop.invariant.0 more,
            half-left,
          )
    ]
