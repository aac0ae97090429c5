-- `Accepted::rows` has the records of all agents.
-- Before turn i those of agents 1 to i - 1 with the agents below them.
use Rattle.std.proofs.Common.{ℕ, suc, ◌+◌, ◌-◌, ◌≤◌, List, []}
use Rattle.model_base.specs.Finite.{gather}
use Rattle.model_sheet.specs.Problem.{Problem}
use Rattle.model_sheet.specs.Row.{Row}
use Rattle.sheet_reader.specs.Abstract.{problem_of}
use Rattle.sheet_writer.specs.Editions.{number_of}
use Rattle.sheet_editions.specs.Pairs.{rows_of}
use Rattle.sheet_editions.proofs.Filling.{Gathered}
use Rattle.sheet_editions.proofs.accepted.Accepted.rows.Given as goal

-- of agent i with the agents below it
abbrev pub below : ℕ → Problem → ℕ → List Row
below edition p i = gather (p.count - i) (suc i) (rows_of edition p i)

abbrev pub invariant-loop-i : goal.invariant-loop-i
invariant-loop-i l =
    (l.i ≤ l.self.problem.count + 1) × Gathered [] (below (number_of l.edition) (problem_of l.self.problem)) 1 (l.i - 1) l.rows
