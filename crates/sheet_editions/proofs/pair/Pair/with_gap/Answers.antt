-- `Pair::with_gap` marks the gap of a pair that the word has.
-- One bit more, or none.
use Rattle.std.proofs.Common.{sym, ◌∙◌, arith, eqb}
use mathlib.Core.Bool.{and-true}
use Rattle.model_editions.specs.Gaps.{place_of}
use Rattle.sheet_editions.proofs.Marks.{renamed, marked-one}
use Rattle.sheet_editions.proofs.pair.Pair.with_gap.Goals as goal

pub invariant_of-result : goal.invariant_of-result
unfolding place_of
invariant_of-result c =
    let a = c.args in
    record { short = (marked-one a.gaps.bits (place_of a.v a.w) a.gaps.short (omega arith)).short }

pub returns : goal.returns
unfolding place_of
returns c =
    let a = c.args in
    let yes = sym c.bans.ensures ∙ c.if-not-bans.false in
    renamed a.gaps.bits _ _ _ (marked-one a.gaps.bits (place_of a.v a.w) a.gaps.short (omega arith))
    (λ k. rw yes (sym (and-true (eqb (place_of a.v a.w) k))))
