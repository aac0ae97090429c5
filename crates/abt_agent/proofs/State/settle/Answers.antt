-- `settle` is the rule of choosing with backing up.
-- Turn by turn; each need is a law of the turn.
use Rattle.std.proofs.Common.{arith}
use Rattle.abt_agent.proofs.Turns.{turn-begin, took-step, failed-step, nobody, room, next-turn}
use Rattle.abt_agent.proofs.State.settle.Goals as goal

pub loop-value-init : goal.loop-value-init
loop-value-init c = turn-begin _ _ _ _ _ c.requires.sound c.requires.backs_len

pub returns-in-Some : goal.returns-in-Some
returns-in-Some c =
    let t = c.loop-value in
    λ bans conflicts_of.
    rw c.taking.ensures
    (took-step c.args.own c.requires.own_fits _ _ _ t.s t.nogoods t.backs t.count t.invariant _ _ _ c.choose-value.ensures.chose.1
    c.args.links c.requires.above bans conflicts_of c.in-Some.value c.in-Some.is
    c.requires.refuser c.tells-told.result c.tells-told.ensures)

pub returns-in_default-last_digit : goal.returns-in_default-last_digit
returns-in_default-last_digit c =
    let t = c.loop-value in
    let choice = c.choose-value.ensures in
    λ bans conflicts_of.
    rw c.failing.ensures
    (failed-step c.args.own c.requires.own_fits _ _ _ t.s t.nogoods t.backs t.count t.invariant _ _ _
    choice.chose.1 c.args.links c.requires.above bans conflicts_of c.in_default.is
    (nobody c.args.own c.requires.own_fits _ _ _ t.s t.nogoods t.backs t.count t.invariant _ _ _
    choice.chose.1 c.in_default.is c.choose-value.result.resolvent (choice.joined c.in_default.is) c.last_digit.result c.last_digit.ensures.found
    c.in_default-last_digit.is))

pub bounds-backs-count : goal.bounds-backs-count
bounds-backs-count c =
    let t = c.loop-value in
    let choice = c.choose-value.ensures in
    room c.args.own c.requires.own_fits _ _ _ t.s t.nogoods t.backs t.count t.invariant _ _ _
    choice.chose.1 c.in_default.is c.choose-value.result.resolvent (choice.joined c.in_default.is) c.last_digit.result c.last_digit.ensures.found
    c.in-Some-last_digit.k c.in-Some-last_digit.is

pub loop-value-preserved : goal.loop-value-preserved
loop-value-preserved c =
    let t = c.loop-value in
    let choice = c.choose-value.ensures in
    next-turn c.args.own c.requires.own_fits _ _ _ t.s t.nogoods t.backs t.count t.invariant _ _ _
    choice.chose.1 c.in_default.is c.choose-value.result.resolvent (choice.joined c.in_default.is) c.last_digit.result c.last_digit.ensures.found
    c.in-Some-last_digit.k c.in-Some-last_digit.is
    c.nogoods_without.result c.with_digit.result c.with-s.result (omega arith) c.nogoods_without.ensures c.with_digit.ensures c.with-s.ensures (omega arith)
    choice.chose.0
