-- `is_zero` compares with the counts of no message.
use Rattle.std.proofs.Common.{sym, eqb}
use mathlib.Core.Bool.{and_assoc}
use Rattle.model_agent.specs.Traffic.{each_sort}
use Rattle.abt_agent.specs.Abstract.{count_of}
use Rattle.abt_agent.proofs.Start.{default-counts}
use Rattle.abt_agent.proofs.Traffic.is_zero.Goals as goal

pub returns : goal.returns
unfolding each_sort count_of
returns c =
    let self = c.args.self in
    rw (c.eq.ensures, default-counts c.default.result c.default.ensures) (sym (and_assoc (eqb self.infos 0) (eqb self.backs 0) (eqb self.links 0)))
