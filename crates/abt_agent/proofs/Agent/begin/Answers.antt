-- `begin` is the rule of the start.
-- Nothing is known, so the lowest value is free.
use Rattle.abt_agent.proofs.Start.{default-counts, default-lhs, begins-told}
use Rattle.abt_agent.proofs.Agent.begin.Goals as goal

pub returns : goal.returns
returns c =
    λ bans.
    let none = default-counts c.default-none.result c.default-none.ensures in
    rw (none, default-lhs c.default.result c.default.ensures)
    (begins-told c.args.own bans c.args.listens c.args.informs _ _ c.requires.own_fits c.requires.below (rw none at c.with_sent.ensures))
