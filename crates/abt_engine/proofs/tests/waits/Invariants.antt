-- From the last row down: those left are the first ones, and all rows are idle if those left are.
use Rattle.std.proofs.Common.{◌≡◌, length, take}
use Rattle.model_base.specs.Finite.{all_to}
use Rattle.abt_record_laws.specs.Held.{Clean}
use Rattle.abt_engine.proofs.Held.{idle_row}
use Rattle.abt_engine.proofs.tests.waits.Given as goal

abbrev pub invariant-loop-row : goal.invariant-loop-row
invariant-loop-row l =
    (take (length l.row-iterator.iter.rest.now) l.counts ≡ l.row-iterator.iter.rest.now)
    × (Clean l.counts → all_to l.n (idle_row l.counts) ≡ all_to (length l.row-iterator.iter.rest.now) (idle_row l.counts))
