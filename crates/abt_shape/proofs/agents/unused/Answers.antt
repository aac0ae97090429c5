-- Field by field.
use Rattle.std.proofs.Common.{rules, eqb-true, eq-eqb, w8, w16, w64, Fits, ℕ, ◌^◌, ◌<◌, ◌≡◌, false, ◌&&◌, arith, eqb}
use mathlib.Core.Bool.{false≢true}
use Rattle.model_base.proofs.Tests.{test, both}
use Rattle.model_network.specs.Shape.{unused}
use Rattle.abt_agent.specs.Abstract.{count_of, agent_of}
use Rattle.abt_agent.specs.declared.Agent.{Agent}
use Rattle.model_agent.specs.Traffic.{each_sort}
use Rattle.abt_shape.proofs.Clauses.{zeroed, unused-is}
use Rattle.abt_shape.proofs.agents.unused.Goals as goal
use Rattle.abt_shape.proofs.agents.unused.Goals.{then-a-eq0-6, else-a-eq0-6}

not_all : (u v x y s t : ℕ) → (u ≡ 0 → v ≡ 0 → x ≡ 0 → y ≡ 0 → s ≡ 0 → t ≡ 0 → ⊥)
    → eqb u 0 && eqb v 0 && eqb x 0 && eqb y 0 && eqb s 0 && eqb t 0 ≡ false
not_all u v x y s t n =
    test (eqb u 0 && eqb v 0 && eqb x 0 && eqb y 0 && eqb s 0 && eqb t 0)
    (λ e.
    let a = both (eqb u 0 && eqb v 0 && eqb x 0 && eqb y 0 && eqb s 0) (eqb t 0) e in
    let b = both (eqb u 0 && eqb v 0 && eqb x 0 && eqb y 0) (eqb s 0) a.0 in
    let c = both (eqb u 0 && eqb v 0 && eqb x 0) (eqb y 0) b.0 in
    let d = both (eqb u 0 && eqb v 0) (eqb x 0) c.0 in
    let f = both (eqb u 0) (eqb v 0) d.0 in
    absurd (n (eqb-true u 0 f.0) (eqb-true v 0 f.1) (eqb-true x 0 d.1) (eqb-true y 0 c.1) (eqb-true s 0 b.1) (eqb-true t 0 a.1)))
    (λ e. e)

opened : (a : Agent) → a.listens < 2 ^ 16 → a.informs < 2 ^ 16 → a.view.digits < 2 ^ 64 → a.nogood_mask < 2 ^ 8
    → unused (agent_of a) ≡ eqb a.value 0 && eqb a.last 0 && eqb a.listens 0 && eqb a.informs 0 && eqb a.view.digits 0 && eqb a.nogood_mask 0
    && (each_sort (count_of a.sent) (λ c. eqb c 0) && each_sort (count_of a.received) (λ c. eqb c 0))
unfolding zeroed
opened a l i v s = unused-is a l i v s

pub returns-then-is_zero : goal.returns-then-is_zero
returns-then-is_zero c =
    let a = c.args.a in
    elim c.if-a-eq0-6.branch [
      | then-a-eq0-6 z ↦
          let t = z.if-a-eq0-6.true in
          rw (opened a (omega arith) (omega arith) (omega arith) (omega arith), eq-eqb a.value 0 t.0, eq-eqb a.last 0 t.1, eq-eqb a.listens 0 t.2, eq-eqb a.informs 0 t.3, eq-eqb a.view.digits 0 t.4, eq-eqb a.nogood_mask 0 t.5, ← z.is_zero.ensures, ← z.value-is, c.if-is_zero.true)
          c.is_zero-then-is_zero.ensures
      | else-a-eq0-6 z ↦ absurd (false≢true (cc))
    ]

pub returns-else-is_zero : goal.returns-else-is_zero
returns-else-is_zero c =
    let a = c.args.a in
    let l : Fits w16 c.args.a.listens = search rules in
    let i : Fits w16 c.args.a.informs = search rules in
    let v : Fits w64 c.args.a.view.digits = search rules in
    let s : Fits w8 c.args.a.nogood_mask = search rules in
    let o = opened a l.fits i.fits v.fits s.fits in
    elim c.if-a-eq0-6.branch [
      | then-a-eq0-6 z ↦
          let t = z.if-a-eq0-6.true in
          rw (o, eq-eqb a.value 0 t.0, eq-eqb a.last 0 t.1, eq-eqb a.listens 0 t.2, eq-eqb a.informs 0 t.3, eq-eqb a.view.digits 0 t.4, eq-eqb a.nogood_mask 0 t.5, ← z.is_zero.ensures, ← z.value-is, c.if-is_zero.false)
      | else-a-eq0-6 z ↦
          let none : eqb a.value 0 && eqb a.last 0 && eqb a.listens 0 && eqb a.informs 0 && eqb a.view.digits 0 && eqb a.nogood_mask 0 ≡ false =
          not_all a.value a.last a.listens a.informs a.view.digits a.nogood_mask (λ a b d e f g. grind arith) in
          rw (o, none) (c.if-is_zero.false)
    ]
