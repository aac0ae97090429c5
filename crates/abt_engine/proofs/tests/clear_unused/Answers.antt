-- The rows before the next one are clean.
use Rattle.abt_engine.proofs.Held.{one-cleaned, all-cleaned}
use Rattle.abt_engine.proofs.tests.clear_unused.Goals as goal

pub loop-i-preserved : goal.loop-i-preserved
loop-i-preserved c = one-cleaned _ _ _ c.lines_of.result c.loop-i.invariant c.loop-i-test.true c.lines_of.ensures

pub returns : goal.returns
returns c = (c.loop-i.invariant.width, all-cleaned _ _ _ c.loop-i.invariant c.loop-i-test.false)
