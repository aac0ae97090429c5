-- `Pair::gaps` marks the gaps of all pairs that the word has.
-- Before turn v those of 1 to v - 1 of the lower.
use Rattle.std.proofs.Common.{◌+◌, ◌-◌, ◌≡◌, arith}
use Rattle.model_editions.specs.Gaps.{has_gap}
use Rattle.sheet_editions.specs.Rows.{gap_with}
use Rattle.sheet_editions.proofs.Marks.{some-none-yet, some_more}
use Rattle.sheet_editions.proofs.pair.Pair.gaps.Goals as goal

pub loop-v-init : goal.loop-v-init
loop-v-init c = (omega arith, rw c.none-gaps.ensures (some-none-yet _ 0 (omega arith)))

pub loop-v-preserved : goal.loop-v-preserved
loop-v-preserved c =
    let l = c.loop-v in
    (omega arith, some_more _ 0 (l.v - 1) l.v (l.v + 1 - 1) _ _ (omega arith) (omega arith) l.invariant.1 c.gaps_with-gaps.ensures)

pub returns : goal.returns
unfolding gap_with has_gap
returns c =
    let l = c.loop-v in
    let all : l.v - 1 ≡ c.args.self.slots = omega arith in
    rw all at l.invariant.1

pub returns-2 : goal.returns-2
unfolding gap_with has_gap
returns-2 c =
    let l = c.loop-v in
    some_more _ 0 (l.v - 1) l.v c.args.self.slots _ _ (omega arith) (omega arith) l.invariant.1 c.gaps_with-gaps.ensures
