-- From one sender to the next that has some, the visits ahead stay.
use Rattle.std.proofs.Common.{refl, ap, ◌∙◌, ◌+◌, arith}
use Rattle.abt_engine.specs.Lines.{ahead}
use Rattle.abt_engine.proofs.Ahead.{ahead-down, ahead_none, found-later}
use Rattle.abt_engine.proofs.lines.next_visit.Goals as goal

pub returns-then-row-ne0 : goal.returns-then-row-ne0
returns-then-row-ne0 c =
    found-later (c.loop-from.invariant ∙ ahead-down _ _ c.loop-from.from _ c.loop-from-test.true refl)
    (c.first_of-then-row-ne0.ensures c.args.quota.now c.args.n (omega arith))

pub loop-from-preserved : goal.loop-from-preserved
loop-from-preserved c =
    c.loop-from.invariant ∙ ahead-down _ _ c.loop-from.from _ c.loop-from-test.true refl
    ∙ ap (ahead c.args.quota.now c.args.n (c.loop-from.from + 1)) c.if-row-ne0.false

pub returns : goal.returns
returns c = c.loop-from.invariant ∙ ahead_none _ _ c.loop-from.from 0 refl (omega arith)
