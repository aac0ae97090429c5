-- `hear` tells whether a left side holds, and what it brings.
-- A walk along the agents that it names. The invariant: what those passed have brought.
use Rattle.abt_packed.specs.Packed.{assignment}
use Rattle.abt_agent.proofs.Hearing.{Hearing}
use Rattle.abt_agent.proofs.State.hear.Given as goal

abbrev pub invariant-loop-k : goal.invariant-loop-k
invariant-loop-k l = Hearing l.self (assignment l.lhs) l.bans (assignment l.k-iterator.0) l.h
