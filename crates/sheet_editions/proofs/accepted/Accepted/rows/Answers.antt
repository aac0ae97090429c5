-- `Accepted::rows` has the records of all agents.
-- Before turn i those of agents 1 to i - 1 with the agents below them.
use Rattle.std.proofs.Common.{refl, [], zero-add, arith}
use Rattle.sheet_reader.specs.Abstract.{problem_of}
use Rattle.model_editions.specs.Bans.{over_pairs}
use Rattle.sheet_editions.specs.Pairs.{all_rows}
use Rattle.sheet_editions.proofs.Filling.{none_gathered, gather-room, gather-more, all-gathered}
use Rattle.sheet_editions.proofs.accepted.Accepted.rows.Goals as goal

pub loop-i-init : goal.loop-i-init
loop-i-init c = (omega arith, rw c.new-rows.ensures (none_gathered [] _ 1 0 refl))

pub put_below-requires : goal.put_below-requires
unfolding problem_of over_pairs all_rows
put_below-requires c =
    let l = c.loop-i in
    (omega arith, omega arith, gather-room l.invariant.1 c.args.self.now.problem.count l.i (omega arith) (omega arith) (rw zero-add c.requires))

pub loop-i-preserved : goal.loop-i-preserved
unfolding problem_of
loop-i-preserved c =
    let l = c.loop-i in
    (omega arith, gather-more l.invariant.1 l.i _ c.put_below.ensures (omega arith) (omega arith))

pub returns : goal.returns
unfolding problem_of over_pairs all_rows
returns c = all-gathered c.loop-i.invariant.1 c.args.self.now.problem.count (omega arith)

pub returns-2 : goal.returns-2
unfolding problem_of over_pairs all_rows
returns-2 c =
    let l = c.loop-i in
    (gather-more l.invariant.1 l.i c.args.self.now.problem.count c.put_below.ensures (omega arith) (omega arith)).all
