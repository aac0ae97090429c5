-- `with_received` counts one message of its sort.
use Rattle.std.proofs.Common.{arith}
use Rattle.model_agent.specs.Traffic.{top}
use Rattle.abt_agent.specs.Abstract.{message_of}
use Rattle.abt_agent.proofs.Tallies.{Small, as-raised, got-info, got-back, got-link}
use Rattle.abt_agent.proofs.Traffic.with_received.Goals as goal
use Rattle.abt_agent.proofs.Traffic.with_received.Goals.{Start}

small : (c : Start) → Small c.args.self
unfolding top
small c = (omega arith, omega arith, omega arith)

pub returns-in-Info : goal.returns-in-Info
unfolding message_of
returns-in-Info c =
    rw c.in-Info.is (got-info _ _ (small (goal.at.returns-in-Info c).Start) _ (as-raised _ _ _ c.saturating_add.ensures))

pub returns-in-Back : goal.returns-in-Back
unfolding message_of
returns-in-Back c =
    rw c.in-Back.is (got-back _ _ (small (goal.at.returns-in-Back c).Start) _ _ (as-raised _ _ _ c.saturating_add-in-Back.ensures))

pub returns-in-AddLink : goal.returns-in-AddLink
unfolding message_of
returns-in-AddLink c =
    rw c.in-AddLink.is (got-link _ _ (small (goal.at.returns-in-AddLink c).Start) (as-raised _ _ _ c.saturating_add-in-AddLink.ensures))
