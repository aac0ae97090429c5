-- `Accepted::put_below` puts down the records of agent i with each agent below it.
-- Before turn j those with agents i + 1 to j - 1.
use Rattle.std.proofs.Common.{suc, ◌+◌, ◌-◌, ◌≤◌}
use Rattle.sheet_reader.specs.Abstract.{problem_of}
use Rattle.sheet_writer.specs.Editions.{number_of}
use Rattle.sheet_editions.specs.Pairs.{rows_of}
use Rattle.sheet_editions.proofs.Filling.{Gathered}
use Rattle.sheet_editions.proofs.accepted.Accepted.put_below.Given as goal

abbrev pub invariant-loop-j : goal.invariant-loop-j
invariant-loop-j l =
    (l.j ≤ l.self.problem.count + 1)
    × Gathered l.initial.rows (rows_of (number_of l.edition) (problem_of l.self.problem) l.i) (suc l.i) (l.j - (l.i + 1)) l.rows
