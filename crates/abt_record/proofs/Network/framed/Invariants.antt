-- The rule and the problem are in range, and the agents before the k-th pass.
use Rattle.abt_record.proofs.Whole.{AgentsFit}
use Rattle.abt_record.proofs.Network.framed.Given as goal

abbrev pub invariant-loop-k : goal.invariant-loop-k
invariant-loop-k l = AgentsFit l.self l.k
