-- `settle` is the rule of choosing with backing up.
-- Turn by turn; each need is a law of the turn.
use Rattle.std.proofs.Common.{◌-◌}
use Rattle.abt_agent.proofs.Turns.{Turning}
use Rattle.abt_agent.proofs.State.settle.Given as goal

abbrev pub invariant-loop-value : goal.invariant-loop-value
invariant-loop-value l = Turning l.own l.refuser l.initial.s l.initial.nogoods l.s l.nogoods l.backs l.count

abbrev pub decreases-loop-value : goal.decreases-loop-value
decreases-loop-value l = l.own.number - l.count
