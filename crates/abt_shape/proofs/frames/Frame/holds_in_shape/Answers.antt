-- `holds_in_shape` is what is asked of what an agent holds by itself.
-- Clause by clause.
use Rattle.std.proofs.Common.{◌≡◌, sym, ap, ◌∙◌, ◌&&◌, ◌≤◌, arith}
use mathlib.Core.Bool.{and-true}
use Rattle.model_agent.specs.Traffic.{Sort, Infos, Backs, AddLinks, top}
use Rattle.model_agent.specs.Agent.{Agent as Agent'}
use Rattle.model_network.specs.Shape.{holds_value, last_fits, view_listened}
use Rattle.abt_agent.specs.Abstract.{count_of, agent_of}
use Rattle.abt_shape.specs.Parts.{holds_in_shape}
use Rattle.abt_shape.proofs.Clauses.{counts-fit}
use Rattle.abt_shape.proofs.frames.Frame.holds_in_shape.Goals as goal
use Rattle.abt_shape.proofs.frames.Frame.holds_in_shape.Goals.{then-holds_value, else-holds_value, then-last_fits, else-last_fits}

pub returns-then-view_listened : goal.returns-then-view_listened
unfolding agent_of holds_in_shape count_of top
returns-then-view_listened c =
    let small : (x : Sort) → (count_of c.args.a.sent x ≤ top) × (count_of c.args.a.received x ≤ top) =
    λ x. elim x as (λ y. (count_of c.args.a.sent y ≤ top) × (count_of c.args.a.received y ≤ top)) [
      | Infos ↦ (omega arith, omega arith)
      | Backs ↦ (omega arith, omega arith)
      | AddLinks ↦ (omega arith, omega arith)
    ] in
    λ w f e.
    let own = sym (f.owned c.args.i) ∙ sym c.digit-d.ensures.0 in
    let value = c.holds_value.ensures w c.args.i f.verdict-is own (ap (λ (x : Agent'). x.value) e) in
    let two : c.if-holds_value.value ≡ holds_value w c.args.i && last_fits w c.args.i =
    elim c.if-holds_value.branch [
      | then-holds_value z ↦ rw (← value, z.if-holds_value.true) (z.value-is ∙ z.last_fits.ensures w c.args.i own (ap (λ (x : Agent'). x.value) e) (ap (λ (x : Agent'). x.last) e))
      | else-holds_value z ↦ rw (← value, z.if-holds_value.false) (z.value-is ∙ z.if-holds_value.false)
    ] in
    let three : c.if-last_fits.value ≡ holds_value w c.args.i && last_fits w c.args.i && view_listened w c.args.i =
    elim c.if-last_fits.branch [
      | then-last_fits z ↦ rw (← two, z.if-last_fits.true) (z.value-is ∙ z.view_listened.ensures w c.args.i f.owned (ap (λ (x : Agent'). x.listens) e) (ap (λ (x : Agent'). x.view) e))
      | else-last_fits z ↦ rw (← two, z.if-last_fits.false) (z.value-is ∙ z.if-last_fits.false)
    ] in
    let counts = counts-fit w c.args.i _ e small in
    rw (← three, c.if-view_listened.true, counts, and-true) (c.nogoods_fit.ensures w c.args.i own e)

pub returns-else-view_listened : goal.returns-else-view_listened
unfolding agent_of holds_in_shape
returns-else-view_listened c =
    λ w f e.
    let own = sym (f.owned c.args.i) ∙ sym c.digit-d.ensures.0 in
    let value = c.holds_value.ensures w c.args.i f.verdict-is own (ap (λ (x : Agent'). x.value) e) in
    let two : c.if-holds_value.value ≡ holds_value w c.args.i && last_fits w c.args.i =
    elim c.if-holds_value.branch [
      | then-holds_value z ↦ rw (← value, z.if-holds_value.true) (z.value-is ∙ z.last_fits.ensures w c.args.i own (ap (λ (x : Agent'). x.value) e) (ap (λ (x : Agent'). x.last) e))
      | else-holds_value z ↦ rw (← value, z.if-holds_value.false) (z.value-is ∙ z.if-holds_value.false)
    ] in
    let three : c.if-last_fits.value ≡ holds_value w c.args.i && last_fits w c.args.i && view_listened w c.args.i =
    elim c.if-last_fits.branch [
      | then-last_fits z ↦ rw (← two, z.if-last_fits.true) (z.value-is ∙ z.view_listened.ensures w c.args.i f.owned (ap (λ (x : Agent'). x.listens) e) (ap (λ (x : Agent'). x.view) e))
      | else-last_fits z ↦ rw (← two, z.if-last_fits.false) (z.value-is ∙ z.if-last_fits.false)
    ] in
    rw (← three, c.if-view_listened.false)
