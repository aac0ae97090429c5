-- What is put, with the reasons of the values left, is the reasons of all.
use Rattle.std.proofs.Common.{◌+◌, ◌-◌}
use Rattle.model_base.specs.Finite.{gather}
use Rattle.abt_agent.specs.Abstract.{agent_of}
use Rattle.abt_board_drawing.proofs.Saying.{Says}
use Rattle.abt_board_drawing.proofs.Reasons.{reason_of}
use Rattle.abt_board_drawing.proofs.agents.put_reasons.Given as goal

abbrev pub invariant-loop-v : goal.invariant-loop-v
invariant-loop-v l =
    Says l.initial.out.items (gather 8 1 (reason_of (agent_of l.a)))
    l.out.items (gather (8 - l.v) (l.v + 1) (reason_of (agent_of l.a)))
