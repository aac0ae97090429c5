-- `Sheet::domains_good` is the test of each of the twelve slot counts.
-- Those of the agents before i are good.
use Rattle.model_sheet.specs.Problem.{domain_in_range}
use Rattle.model_sheet.specs.Sheet.{without_bans}
use Rattle.sheet_records.proofs.Tests.{Passed}
use Rattle.sheet_records.proofs.bytes.Sheet.domains_good.Given as goal

abbrev pub invariant-loop-i : goal.invariant-loop-i
invariant-loop-i l = Passed (domain_in_range (without_bans l.self.bytes.now)) l.i
