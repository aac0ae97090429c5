-- `Pair::gaps_with` marks the gaps of one value of the lower.
-- Before turn w those with 1 to w - 1 of the higher.
use Rattle.std.proofs.Common.{◌+◌, ◌-◌, ◌≡◌, arith}
use Rattle.sheet_editions.specs.Rows.{gap_with}
use Rattle.sheet_editions.proofs.Marks.{some-none-yet, some_more}
use Rattle.sheet_editions.proofs.pair.Pair.gaps_with.Goals as goal

pub loop-w-init : goal.loop-w-init
loop-w-init c = (omega arith, some-none-yet _ _ c.args.gaps.short)

pub loop-w-preserved : goal.loop-w-preserved
loop-w-preserved c =
    let l = c.loop-w in
    (omega arith, some_more _ _ (l.w - 1) l.w (l.w + 1 - 1) _ _ (omega arith) (omega arith) l.invariant.1 c.with_gap-gaps.ensures)

pub returns : goal.returns
unfolding gap_with
returns c =
    let l = c.loop-w in
    let all : l.w - 1 ≡ c.args.self.others = omega arith in
    rw all at l.invariant.1

pub returns-2 : goal.returns-2
unfolding gap_with
returns-2 c =
    let l = c.loop-w in
    some_more _ _ (l.w - 1) l.w c.args.self.others _ _ (omega arith) (omega arith) l.invariant.1 c.with_gap-gaps.ensures
