-- `of` is what a view bans.
-- A walk along the agents that the view names. The invariant: the bytes are those of the view less the agents that are left.
use Rattle.abt_packed.specs.Packed.{assignment}
use Rattle.abt_choosing.proofs.Walking.{Walked}
use Rattle.abt_choosing.proofs.Conflicts.of.Given as goal

abbrev pub invariant-loop-k : goal.invariant-loop-k
invariant-loop-k l = Walked l.bans (assignment l.view) l.b (assignment l.k-iterator.0)
