-- `hear` tells whether a left side holds, and what it brings.
-- A walk along the agents that it names. The invariant: what those passed have brought.
use Rattle.std.proofs.Common.{sym, ◌∙◌, arith}
use Rattle.abt_packed.specs.Packed.{assignment}
use Rattle.abt_packed.proofs.Digits.{digit-assigned, nobody-assigned}
use Rattle.abt_choosing.specs.Conflicts.{bans_in}
use Rattle.abt_choosing.proofs.Named.{named-range}
use Rattle.abt_choosing.proofs.Walking.{near}
use Rattle.abt_agent.proofs.Hearing.{hear-begins, hear-matched, hear-new, hear-ends, hear-fails, hear-within}
use Rattle.abt_agent.proofs.State.hear.Goals as goal
use Rattle.abt_agent.proofs.State.hear.Goals.{In-Some}

pub returns-then-within : goal.returns-then-within
returns-then-within c =
    hear-within c.args.self (assignment c.args.lhs) c.args.own c.args.bans.now c.requires.conflicts_of
    c.requires.listening (λ k e. named-range c.args.lhs k (omega arith) e) (sym c.within.ensures ∙ c.if-within.true)

pub loop-k-init : goal.loop-k-init
loop-k-init c =
    rw c.into_iter-k-iterator.ensures.into_iter_gives (hear-begins c.args.self (assignment c.args.lhs) c.args.bans.now c.requires.conflicts_of)

pub returns-then-digit-u : goal.returns-then-digit-u
returns-then-digit-u c =
    let (first, value, left) = c.in-Some.ensures.steps in
    let (_, here, lo, hi) = first in
    let e = c.loop-k.invariant.left c.in-Some.k here in
    hear-fails c.args.self (assignment c.args.lhs) c.args.own (bans_in c.args.bans.now) c.in-Some.k c.requires.view_fits lo hi
    (rw e at here) (sym c.has.ensures ∙ c.if-has.true) (λ q. c.if-digit-u.true (c.digit.ensures.0 ∙ q ∙ sym e ∙ sym value))

pub loop-k-preserved-else-digit-u : goal.loop-k-preserved-else-digit-u
loop-k-preserved-else-digit-u c =
    let (first, value, left) = c.in-Some.ensures.steps in
    rw left
    (hear-matched c.args.self (assignment c.args.lhs) c.args.bans.now (assignment c.loop-k.k-iterator.0) c.loop-k.h c.loop-k.invariant
    c.in-Some.k first.1 (sym c.has.ensures ∙ c.if-has.true)
    (sym c.digit.ensures.0 ∙ c.if-digit-u.false ∙ value))

pub with_digit-requires : goal.with_digit-requires
with_digit-requires c =
    let (first, value, left) = c.in-Some.ensures.steps in
    (first.2, first.3, rw value (digit-assigned c.loop-k.k-iterator.0 c.in-Some.k))

pub bounds-bans-k : goal.bounds-bans-k
bounds-bans-k c =
    let (_, here, lo, hi) = c.in-Some.ensures.steps.0 in
    omega (arith, (near _ _ _ _ c.requires.able c.requires.view_fits c.loop-k.invariant.left _ lo hi here).0)

pub conflicts_at-requires : goal.conflicts_at-requires
conflicts_at-requires c =
    let ((_, here, lo, hi), value, _) = c.in-Some.ensures.steps in
    let (_, some, few) = near _ _ _ _ c.requires.able c.requires.view_fits c.loop-k.invariant.left _ lo hi here in
    rw value (some, few)

pub loop-k-preserved : goal.loop-k-preserved
loop-k-preserved c =
    let (first, value, left) = c.in-Some.ensures.steps in
    rw left
    (hear-new c.args.self (assignment c.args.lhs) c.args.bans.now (assignment c.loop-k.k-iterator.0) c.loop-k.h c.loop-k.invariant
    c.in-Some.k first.1 c.args.own c.requires.able c.requires.view_fits first.2 first.3 c.add.result c.with_digit.result
    c.with-h.result (sym c.has.ensures ∙ c.if-has.false) c.add.ensures (rw value at c.with_digit.ensures)
    (λ j l m. rw (← value, ← c.conflicts_at.ensures) (c.with-h.ensures j l m)))

pub returns : goal.returns
returns c =
    hear-ends c.args.self (assignment c.args.lhs) c.args.own c.args.bans.now c.loop-k.h
    (rw (c.in-None.ensures.steps, nobody-assigned) at c.loop-k.invariant)
