-- `Accepted::is_sayable` tests all pairs.
-- The agents before j are sayable with those above them.
use Rattle.sheet_reader.specs.Abstract.{problem_of}
use Rattle.sheet_records.proofs.Tests.{Passed}
use Rattle.sheet_editions.proofs.Words.{unmixed_above}
use Rattle.sheet_editions.proofs.accepted.Accepted.is_sayable.Given as goal

abbrev pub invariant-loop-j : goal.invariant-loop-j
invariant-loop-j l = Passed (unmixed_above (problem_of l.self.problem)) l.j
