-- The mask of the linked agents above, from the agent next to i down. Assumes nothing.
use Rattle.std.proofs.Common.{◌+◌, ◌≤◌}
use Rattle.model_sheet.specs.Problem.{linked}
use Rattle.abt_start.proofs.Words.{table}
use Rattle.abt_start.proofs.Masks.{Masked}
use Rattle.abt_start.proofs.listens.Given as goal

abbrev pub invariant-loop-k : goal.invariant-loop-k
invariant-loop-k l = (l.k + 1 ≤ l.i) × Masked (λ j. linked (table l.bans) j l.i) l.mask l.k
