-- `Pair::put_pairs` puts down all pairs that the word has.
-- Before turn v those of 1 to v - 1 of the lower.
use Rattle.std.proofs.Common.{◌+◌, ◌-◌, ◌≤◌}
use Rattle.sheet_editions.specs.Rows.{pairs_with}
use Rattle.sheet_editions.proofs.Filling.{Gathered}
use Rattle.sheet_editions.proofs.pair.Pair.put_pairs.Given as goal

abbrev pub invariant-loop-v : goal.invariant-loop-v
invariant-loop-v l =
    (l.v ≤ l.self.slots + 1) × Gathered l.initial.rows (pairs_with l.self.lower l.self.higher l.self.others l.self.word) 1 (l.v - 1) l.rows
