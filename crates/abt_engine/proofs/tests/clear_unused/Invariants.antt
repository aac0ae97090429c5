-- The rows before the next one are clean.
use Rattle.abt_engine.proofs.Held.{Cleaning}
use Rattle.abt_engine.proofs.tests.clear_unused.Given as goal

abbrev pub invariant-loop-i : goal.invariant-loop-i
invariant-loop-i l = Cleaning l.fn.counts l.row-items l.i
