-- The mask of the linked agents below, from agent n down to the one next to i.
use Rattle.std.proofs.Common.{◌≤◌}
use Rattle.abt_start.proofs.Words.{linked_to}
use Rattle.abt_start.proofs.Masks.{Masked}
use Rattle.abt_start.proofs.informs.Given as goal

abbrev pub invariant-loop-k : goal.invariant-loop-k
invariant-loop-k l = (l.i ≤ l.k) × Masked (linked_to l.bans l.n l.i) l.mask l.k × (l.k ≤ l.n)
