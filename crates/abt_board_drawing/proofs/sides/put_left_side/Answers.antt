-- Where nobody is named that is said, else the lowest scanner that is left is said behind the others.
use Rattle.std.proofs.Common.{◌≡◌, ℕ, ◌<◌, ◌^◌, List, ◌++◌, sym, ap, ◌∙◌, subst, OnOk, arith, rules, codes}
use Rattle.model_agent.specs.Message.{known}
use Rattle.abt_packed.specs.Packed.{assignment}
use Rattle.abt_agent.specs.Abstract.{assigned}
use Rattle.abt_board_drawing.specs.Text.{of_each, pair, left_side}
use Rattle.abt_board_drawing.proofs.Saying.{none-said, one-said, all-said}
use Rattle.abt_board_drawing.proofs.Sets.{entries-first, entries-over, nobody-named, somebody-named}
use Rattle.abt_board_drawing.proofs.sides.put_left_side.Goals as goal

nothing-is : (x : ℕ) → x ≡ 0 → left_side (assignment x) ≡ codes " nothing"
unfolding left_side
nothing-is x e = rw (left_side, nobody-named x e)

pub returns-then-l-eq0 : goal.returns-then-l-eq0
unfolding assigned
returns-then-l-eq0 c =
    subst (λ (t : List ℕ). OnOk c.extend_from_slice.result (c.extend_from_slice.new.self.items ≡ c.args.out.now.items ++ t))
    (sym (nothing-is c.args.l.digits c.if-l-eq0.true))
    (search rules)

pub loop-k-init : goal.loop-k-init
loop-k-init c = rw c.into_iter-k-iterator.ensures.into_iter_gives none-said

pub loop-k-preserved : goal.loop-k-preserved
loop-k-preserved c = one-said _ c.loop-k.invariant (entries-first pair _ _ _ c.in-Some.ensures.steps) c.in_ok-put_pair.ensures

side-is : (x : ℕ) → (x ≡ 0 → ⊥) → x < 2 ^ 64 → left_side (assignment x) ≡ of_each (λ k. known (assignment x k)) (λ k. pair k (assignment x k))
unfolding left_side
side-is x n u = rw (left_side, somebody-named x n u)

pub returns : goal.returns
unfolding assigned
returns c = all-said c.loop-k.invariant (entries-over pair _ c.in-None.ensures.steps)
    ∙ ap (λ (t : List ℕ). c.args.out.now.items ++ t) (sym (side-is c.args.l.digits c.if-l-eq0.false (omega arith)))
