-- The choices are tried one by one: what is left are those from this one on.
use Rattle.std.proofs.Common.{◌+◌, ◌-◌, ◌≡◌, sym, ap, ◌∙◌, arith}
use Rattle.gate_second_reading.specs.Choices.{solvable_from, solvable_by}
use Rattle.gate_second_reading.proofs.Turns.{solvable-found, solvable-ends, solvable-over, solvable-goes}
use Rattle.gate_second_reading.proofs.reading.Sheet.solvable.Goals as goal

pub loop-init : goal.loop-init
unfolding solvable_by
loop-init c = ap (solvable_from 40000 _) (sym c.first-c.ensures)

pub returns-then-obeys : goal.returns-then-obeys
returns-then-obeys c = sym (c.loop.invariant ∙ solvable-found _ _ _ (sym c.obeys.ensures ∙ c.if-obeys.true))

pub returns-in_default : goal.returns-in_default
returns-in_default c =
    let broken = sym c.obeys.ensures ∙ c.if-obeys.false in
    sym (c.loop.invariant ∙ solvable-over _ _ _ (omega arith) broken (sym c.next_choice.ensures ∙ c.in_default.is))

pub loop-preserved : goal.loop-preserved
loop-preserved c =
    let broken = sym c.obeys.ensures ∙ c.if-obeys.false in
    let less : 40000 - c.loop.counter - 1 ≡ 40000 - (c.loop.counter + 1) = omega arith in
    rw (← less) (c.loop.invariant ∙ solvable-goes _ _ _ (omega arith) broken _ (sym c.next_choice.ensures ∙ c.in-Some.is))

pub returns : goal.returns
returns c = sym (c.loop.invariant ∙ solvable-ends _ _ _ (omega arith))
