-- `Pair::gaps_with` marks the gaps of one value of the lower.
-- Before turn w those with 1 to w - 1 of the higher.
use Rattle.std.proofs.Common.{◌+◌, ◌-◌, ◌≤◌, ◌&&◌, eqb}
use Rattle.model_base.specs.Bits.{bit}
use Rattle.model_sheet.specs.Problem.{bit_at}
use Rattle.model_editions.specs.Gaps.{place_of, some_to}
use Rattle.sheet_editions.specs.Rows.{Marked}
use Rattle.sheet_editions.proofs.pair.Pair.gaps_with.Given as goal

abbrev pub invariant-loop-w : goal.invariant-loop-w
invariant-loop-w l =
    (l.w ≤ l.self.others + 1)
    × Marked l.initial.gaps.bits l.gaps.bits (λ k. some_to (l.w - 1) (λ w. eqb (place_of l.v w) k && bit l.self.word (bit_at l.v w)))
