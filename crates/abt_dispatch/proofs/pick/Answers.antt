-- Refused at once, or the wish, or else an even pick.
use Rattle.std.proofs.Common.{◌≡◌, sym, ap, ◌∙◌, false, not}
use Rattle.model_dispatch.specs.Dispatch.{meets}
use Rattle.abt_dispatch.specs.Abstract.{line_of, dispatcher_of}
use Rattle.abt_dispatch.proofs.Picking.{refused, even, cannot-be, wished, evens}
use Rattle.abt.proofs.Delivering.{none-number, some-number}
use Rattle.abt_dispatch.proofs.Delivering.{can, cannot}
use Rattle.abt_dispatch.proofs.pick.Goals as goal
use Rattle.abt_dispatch.proofs.pick.Goals.{else-is_odd, then-is_odd+else-is_none}

pub returns-in-Some : goal.returns-in-Some
returns-in-Some c = refused _ _ _ c.in-Some.ensures

pub returns-then-is_none : goal.returns-then-is_none
returns-then-is_none c =
    let a = c.deliver-answer.ensures.delivers_as in
    wished _ _ (sym c.in_default.ensures) (sym c.is_odd.ensures ∙ c.if-is_odd.true) (can _ _ _ _ a.number (none-number _ (c.is_none.ensures ∙ ap not c.if-is_none.true))) _ _ a.network c.one_more.ensures

pub returns : goal.returns
returns c =
    let unmet : meets (dispatcher_of c.args.d) (line_of c.args.wish) ≡ false =
    elim c.if-is_odd.branch [
      | then-is_odd+else-is_none u ↦ cannot-be _ _ (cannot _ _ _ _ u.deliver-answer.ensures.delivers_as.number (some-number _ (u.is_none.ensures ∙ ap not u.if-is_none.false)))
      | else-is_odd u ↦ even _ _ (sym c.is_odd.ensures ∙ u.if-is_odd.false)
    ] in
    evens _ _ (sym c.in_default.ensures) unmet _ c.pick_in_turn.ensures
