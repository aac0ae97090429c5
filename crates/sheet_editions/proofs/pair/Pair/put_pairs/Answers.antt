-- `Pair::put_pairs` puts down all pairs that the word has.
-- Before turn v those of 1 to v - 1 of the lower.
use Rattle.std.proofs.Common.{arith}
use Rattle.sheet_editions.specs.Rows.{pairs_of}
use Rattle.sheet_editions.proofs.Filling.{none_gathered, gather-room, gather-more, all-gathered}
use Rattle.sheet_editions.proofs.pair.Pair.put_pairs.Goals as goal

pub loop-v-init : goal.loop-v-init
loop-v-init c = (omega arith, none_gathered _ _ 1 _ (omega arith))

pub put_pairs_with-requires : goal.put_pairs_with-requires
unfolding pairs_of
put_pairs_with-requires c =
    let l = c.loop-v in
    let q = c.args.self in
    (omega arith, omega (arith, q.small), gather-room l.invariant.1 q.slots l.v (omega arith) (omega arith) c.requires)

pub loop-v-preserved : goal.loop-v-preserved
loop-v-preserved c =
    let l = c.loop-v in
    (omega arith, gather-more l.invariant.1 l.v _ c.put_pairs_with.ensures (omega arith) (omega arith))

pub returns : goal.returns
unfolding pairs_of
returns c = all-gathered c.loop-v.invariant.1 c.args.self.slots (omega arith)

pub returns-2 : goal.returns-2
unfolding pairs_of
returns-2 c =
    let l = c.loop-v in
    (gather-more l.invariant.1 l.v c.args.self.slots c.put_pairs_with.ensures (omega arith) (omega arith)).all
