-- `Pair::put_pairs_with` puts down the pairs of one value of the lower.
-- Before turn w those with 1 to w - 1 of the higher.
use Rattle.std.proofs.Common.{arith}
use Rattle.sheet_editions.specs.Rows.{pairs_with}
use Rattle.sheet_editions.proofs.Filling.{none_gathered, gather-room, gather-more, all-gathered}
use Rattle.sheet_editions.proofs.pair.Pair.put_pairs_with.Goals as goal

pub loop-w-init : goal.loop-w-init
loop-w-init c = (omega arith, none_gathered _ _ 1 _ (omega arith))

pub put_pair-requires : goal.put_pair-requires
unfolding pairs_with
put_pair-requires c =
    let l = c.loop-w in
    let q = c.args.self in
    (omega arith, omega arith, omega arith, omega (arith, q.small), gather-room l.invariant.1 q.others l.w (omega arith) (omega arith) c.requires.2)

pub loop-w-preserved : goal.loop-w-preserved
loop-w-preserved c =
    let l = c.loop-w in
    (omega arith, gather-more l.invariant.1 l.w _ c.put_pair.ensures (omega arith) (omega arith))

pub returns : goal.returns
unfolding pairs_with
returns c = all-gathered c.loop-w.invariant.1 c.args.self.others (omega arith)

pub returns-2 : goal.returns-2
unfolding pairs_with
returns-2 c =
    let l = c.loop-w in
    (gather-more l.invariant.1 l.w c.args.self.others c.put_pair.ensures (omega arith) (omega arith)).all
