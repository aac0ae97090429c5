-- `Accepted::is_sayable_with` tests the pairs of agent j.
-- Those with the agents before i are sayable.
use Rattle.sheet_reader.specs.Abstract.{problem_of}
use Rattle.sheet_records.proofs.Tests.{Passed}
use Rattle.sheet_editions.proofs.Words.{unmixed}
use Rattle.sheet_editions.proofs.accepted.Accepted.is_sayable_with.Given as goal

abbrev pub invariant-loop-i : goal.invariant-loop-i
invariant-loop-i l = Passed (unmixed (problem_of l.self.problem) l.j) l.i
