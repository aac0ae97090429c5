-- Sender by sender, the receivers upward.
use Rattle.std.proofs.Common.{sym, ◌∙◌, arith, ◌+◌}
use Rattle.abt_packed.proofs.Known.{known-true}
use Rattle.abt_record.proofs.Passing.{none_yet, one-unfit, row-ahead, row-begun, line-ahead, line-passed, row-passed, all-passed}
use Rattle.abt_record.proofs.Network.lines_fit.Goals as goal

pub loop-k-init : goal.loop-k-init
loop-k-init c = λ f. none_yet c.args.self.now

pub loop-to-init : goal.loop-to-init
loop-to-init c =
    rw c.into_iter-to-iterator.ensures.into_iter_gives (
      row-ahead c.args.self.now c.loop-k.k c.lines_of.result c.lines_of.ensures,
      λ f. row-begun c.args.self.now c.loop-k.k c.lines_of.result c.lines_of.ensures (c.loop-k.invariant f),
    )

pub line_fits-requires : goal.line_fits-requires
line_fits-requires c =
    let (first, value, left) = c.in-Some.ensures.steps in
    let (low, here, lo, hi) = first in
    let a = c.loop-to.invariant.0 c.in-Some.to (known-true _ here) in
    (a.0, value ∙ a.1)

pub returns-then-not-line_fits : goal.returns-then-not-line_fits
returns-then-not-line_fits c =
    let (first, value, left) = c.in-Some.ensures.steps in
    let (low, here, lo, hi) = first in
    let a = c.loop-to.invariant.0 c.in-Some.to (known-true _ here) in
    λ f. sym (one-unfit c.args.self.now (c.loop-k.k + 1) c.in-Some.to a.0 (sym (c.line_fits.ensures f) ∙ c.if-not-line_fits.true))

pub loop-to-preserved : goal.loop-to-preserved
loop-to-preserved c =
    let (first, value, left) = c.in-Some.ensures.steps in (
      line-ahead (c.loop-k.k + 1) c.loop-to.to-iterator.0 c.in-Some.to c.next.new.self.0 left c.args.self.now c.loop-to.invariant.0,
      λ f. line-passed (c.loop-k.k + 1) c.loop-to.to-iterator.0 c.in-Some.to c.next.new.self.0 left c.args.self.now (c.loop-to.invariant.1 f) (sym (c.line_fits.ensures f) ∙ c.if-not-line_fits.false),
    )

pub loop-k-preserved : goal.loop-k-preserved
loop-k-preserved c = λ f. row-passed c.args.self.now (c.loop-k.k + 1) c.loop-to.to-iterator.0 c.in-None.ensures.steps (c.loop-to.invariant.1 f)

pub returns : goal.returns
returns c = λ f. sym (all-passed c.args.self.now c.loop-k.k (omega arith) (c.loop-k.invariant f))
