-- The lowest scanner that is left is said behind the others.
use Rattle.std.proofs.Common.{ℕ, ◌++◌, ◌∙◌, ap}
use Rattle.abt_agent.specs.Abstract.{assigned}
use Rattle.abt_board_drawing.specs.Text.{seen}
use Rattle.abt_board_drawing.proofs.Saying.{none-said, one-said, all-said}
use Rattle.abt_board_drawing.proofs.Sets.{members-first, members-over}
use Rattle.abt_board_drawing.proofs.sides.put_sight.Goals as goal

pub digit-requires : goal.digit-requires
digit-requires c = let l = c.in-Some.ensures.steps.0 in (l.2, l.3)

pub loop-k-init : goal.loop-k-init
loop-k-init c = rw c.into_iter-k-iterator.ensures.into_iter_gives none-said

pub loop-k-preserved : goal.loop-k-preserved
unfolding assigned
loop-k-preserved c =
    one-said _ c.loop-k.invariant
    (members-first (λ (k : ℕ). seen k (assigned c.args.view k)) _ _ _ c.in-Some.ensures.steps)
    (c.in_ok-put_seen.ensures ∙ ap (λ (v : ℕ). c.loop-k.out.items ++ seen c.in-Some.k v) c.digit.ensures.0)

pub returns : goal.returns
returns c = all-said c.loop-k.invariant (members-over (λ (k : ℕ). seen k (assigned c.args.view k)) _ c.in-None.ensures.steps)
