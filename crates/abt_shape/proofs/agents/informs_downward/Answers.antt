-- All are above i, and at most n.
use Rattle.std.proofs.Common.{◌≡◌, sym, ◌∙◌, true, false, ltb}
use Rattle.model_network.specs.Shape.{each_in}
use Rattle.model_base.specs.Sets.{members}
use Rattle.abt_shape.proofs.Clauses.{downward}
use Rattle.abt_shape.proofs.agents.informs_downward.Goals as goal

pub returns-then-all_above : goal.returns-then-all_above
returns-then-all_above c =
    let args = c.args in
    let t : each_in (members args.informs) (λ k. ltb args.i k) ≡ true = sym c.all_above.ensures ∙ c.if-all_above.true in
    λ w e f. rw (downward w args.i args.count args.informs e f, t) c.all_to.ensures

pub returns-else-all_above : goal.returns-else-all_above
returns-else-all_above c =
    let args = c.args in
    let t : each_in (members args.informs) (λ k. ltb args.i k) ≡ false = sym c.all_above.ensures ∙ c.if-all_above.false in
    λ w e f. rw (downward w args.i args.count args.informs e f, t) c.if-all_above.false
