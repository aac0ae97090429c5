-- `of` is what a view bans.
-- A walk along the agents that the view names. The invariant: the bytes are those of the view less the agents that are left.
use Rattle.std.proofs.Common.{arith}
use Rattle.abt_packed.specs.Packed.{assignment}
use Rattle.abt_packed.proofs.Digits.{nobody-assigned}
use Rattle.abt_choosing.proofs.Walking.{walk_begins, walk_ends, near, walk-goes}
use Rattle.abt_choosing.proofs.Conflicts.of.Goals as goal
use Rattle.abt_choosing.proofs.Conflicts.of.Goals.{In-Some}

pub loop-k-init : goal.loop-k-init
loop-k-init c = rw c.into_iter-k-iterator.ensures.into_iter_gives (walk_begins _ _ _ c.default-b.ensures)

pub bounds-bans-k : goal.bounds-bans-k
bounds-bans-k c =
    let (_, here, lo, hi) = c.in-Some.ensures.steps.0 in
    omega (arith, (near _ _ _ _ c.requires.able c.requires.view_fits c.loop-k.invariant.left _ lo hi here).0)

pub conflicts_at-requires : goal.conflicts_at-requires
conflicts_at-requires c =
    let ((_, here, lo, hi), value, _) = c.in-Some.ensures.steps in
    let (_, some, few) = near _ _ _ _ c.requires.able c.requires.view_fits c.loop-k.invariant.left _ lo hi here in
    rw value (some, few)

pub loop-k-preserved : goal.loop-k-preserved
loop-k-preserved c =
    let (first, value, left) = c.in-Some.ensures.steps in
    rw left
    (walk-goes c.args.own c.args.bans.now (assignment c.args.view) c.loop-k.b (assignment c.loop-k.k-iterator.0) c.requires.able
    c.requires.view_fits c.loop-k.invariant c.in-Some.k first.2 first.3 first.1 c.with-b.result
    (λ j l h. rw (← value, ← c.conflicts_at.ensures) (c.with-b.ensures j l h)))

pub returns : goal.returns
returns c =
    walk_ends c.args.bans.now (assignment c.args.view) c.loop-k.b
    (rw (c.in-None.ensures.steps, nobody-assigned) at c.loop-k.invariant)
