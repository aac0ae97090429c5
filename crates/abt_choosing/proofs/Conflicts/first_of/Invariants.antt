-- `first_of` is the lowest-numbered agent that bans a value, of those that a word names.
-- A walk along the agents that the word names. The invariant: the rest of the word names those that are left.
use Rattle.std.proofs.Common.{pred}
use Rattle.abt_choosing.proofs.Blaming.{Sought}
use Rattle.abt_choosing.proofs.Conflicts.first_of.Given as goal

abbrev pub invariant-loop-k : goal.invariant-loop-k
invariant-loop-k l = Sought l.self (pred l.w) l.named l.k-iterator.0
