-- `Accepted::put_below` puts down the records of agent i with each agent below it.
-- Before turn j those with agents i + 1 to j - 1.
use Rattle.std.proofs.Common.{◌-◌, arith}
use Rattle.sheet_reader.specs.Abstract.{problem_of}
use Rattle.sheet_writer.specs.Editions.{number_of}
use Rattle.sheet_editions.proofs.Filling.{none_gathered, gather-room, gather-more}
use Rattle.sheet_editions.proofs.Words.{pair-rows}
use Rattle.sheet_editions.proofs.accepted.Accepted.put_below.Goals as goal

pub loop-j-init : goal.loop-j-init
loop-j-init c = (omega arith, none_gathered _ _ _ _ (omega arith))

pub put_rows-requires : goal.put_rows-requires
unfolding problem_of
put_rows-requires c =
    let l = c.loop-j in
    let a = c.args in
    rw (pair-rows a.self.now a.i l.j c.requires.0 (omega arith) (omega arith) c.pair.result c.pair.ensures (number_of a.edition))
    (gather-room l.invariant.1 (a.self.now.problem.count - a.i) l.j (omega arith) (omega arith) c.requires.2)

pub loop-j-preserved : goal.loop-j-preserved
unfolding problem_of
loop-j-preserved c =
    let l = c.loop-j in
    let a = c.args in
    let rows = pair-rows a.self.now a.i l.j c.requires.0 (omega arith) (omega arith) c.pair.result c.pair.ensures (number_of a.edition) in
    (omega arith, gather-more l.invariant.1 l.j _ (rw rows at c.put_rows.ensures) (omega arith) (omega arith))

pub returns-2 : goal.returns-2
unfolding problem_of
returns-2 c =
    let l = c.loop-j in
    let a = c.args in
    let rows = pair-rows a.self.now a.i l.j c.requires.0 (omega arith) (omega arith) c.pair.result c.pair.ensures (number_of a.edition) in
    (gather-more l.invariant.1 l.j (a.self.now.problem.count - a.i) (rw rows at c.put_rows.ensures) (omega arith) (omega arith)).all
