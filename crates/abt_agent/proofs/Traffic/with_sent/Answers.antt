-- `with_sent` counts the posts left, sort by sort.
use Rattle.std.proofs.Common.{arith}
use Rattle.abt_agent.proofs.Tallies.{as-raised, tally, left-raised}
use Rattle.abt_agent.proofs.Traffic.with_sent.Goals as goal

pub returns : goal.returns
returns c =
    λ backs r x.
    rw (tally c.args.p backs (omega arith) (omega arith) r x)
    (left-raised c.args.self _ c.args.p (as-raised _ _ _ c.saturating_add.ensures)
    (as-raised _ _ _ c.saturating_add-2.ensures) (as-raised _ _ _ c.saturating_add-3.ensures) x)
