-- From one sender to the next that has some, the visits ahead stay.
use Rattle.std.proofs.Common.{◌≡◌}
use Rattle.abt_engine.specs.Lines.{ahead}
use Rattle.abt_engine.proofs.lines.next_visit.Given as goal

abbrev pub invariant-loop-from : goal.invariant-loop-from
invariant-loop-from l = ahead l.quota l.n l.sender l.left ≡ ahead l.quota l.n l.from 0
