-- `Pair::gaps` marks the gaps of all pairs that the word has.
-- Before turn v those of 1 to v - 1 of the lower.
use Rattle.std.proofs.Common.{◌+◌, ◌-◌, ◌≤◌}
use Rattle.model_editions.specs.Gaps.{some_to}
use Rattle.sheet_editions.specs.Rows.{Marked, gap_with}
use Rattle.sheet_editions.proofs.pair.Pair.gaps.Given as goal

abbrev pub invariant-loop-v : goal.invariant-loop-v
invariant-loop-v l = (l.v ≤ l.self.slots + 1) × Marked 0 l.gaps.bits (λ k. some_to (l.v - 1) (λ v. gap_with l.self.others l.self.word v k))
