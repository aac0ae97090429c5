-- `value` is asking a value.
-- The tests in the definition's order, then the agent's own value.
use Rattle.std.proofs.Common.{◌≡◌, refl, sym, ◌∙◌, true, ◌≤◌, arith, length, rules}
use Rattle.model_base.proofs.Tests.{to-within, not_within}
use Rattle.model_network.specs.Shape.{in_shape}
use Rattle.model_network.specs.Delivery.{rejection_number, answer_number}
use Rattle.abt_record.specs.Abstract.{problem_of, network_of}
use Rattle.abt_record.proofs.Asking.{ask-broken, ask-nobody, ask-agent, shape-count, value-at}
use Rattle.abt_record.proofs.value.Goals as goal

pub returns-then-not-is_in_shape : goal.returns-then-not-is_in_shape
unfolding answer_number rejection_number
returns-then-not-is_in_shape c = rw (ask-broken (network_of c.args.r) c.args.i (sym c.is_in_shape.ensures ∙ c.if-not-is_in_shape.true)) (refl, refl)

pub returns-then-r-i : goal.returns-then-r-i
unfolding answer_number rejection_number network_of problem_of
returns-then-r-i c = rw (ask-nobody (network_of c.args.r) c.args.i (sym c.is_in_shape.ensures ∙ c.if-not-is_in_shape.false) (not_within c.args.r.count c.args.i (λ l h. omega arith))) (refl, refl)

pub bounds-r-i : goal.bounds-r-i
unfolding network_of problem_of
bounds-r-i c = omega (arith, shape-count (network_of c.args.r) (sym c.is_in_shape.ensures ∙ c.if-not-is_in_shape.false))

pub returns-else-r-i : goal.returns-else-r-i
unfolding answer_number network_of problem_of
returns-else-r-i c =
    let r = c.args.r in
    let e : in_shape (network_of r) ≡ true = sym c.is_in_shape.ensures ∙ c.if-not-is_in_shape.false in
    let n : length r.agents ≡ 12 = search rules in
    let m : r.count ≤ 12 = shape-count (network_of r) e in
    rw (ask-agent (network_of r) c.args.i e (to-within r.count c.args.i (omega arith) (omega arith)))
    (refl, value-at r c.args.i _ n (omega arith) (omega arith))
