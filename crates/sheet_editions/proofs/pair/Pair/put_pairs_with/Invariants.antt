-- `Pair::put_pairs_with` puts down the pairs of one value of the lower.
-- Before turn w those with 1 to w - 1 of the higher.
use Rattle.std.proofs.Common.{◌+◌, ◌-◌, ◌≤◌}
use Rattle.sheet_editions.specs.Rows.{pair_in}
use Rattle.sheet_editions.proofs.Filling.{Gathered}
use Rattle.sheet_editions.proofs.pair.Pair.put_pairs_with.Given as goal

abbrev pub invariant-loop-w : goal.invariant-loop-w
invariant-loop-w l =
    (l.w ≤ l.self.others + 1) × Gathered l.initial.rows (pair_in l.self.lower l.self.higher l.self.word l.v) 1 (l.w - 1) l.rows
