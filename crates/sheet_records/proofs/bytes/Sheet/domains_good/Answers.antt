-- `Sheet::domains_good` is the test of each of the twelve slot counts.
-- One that fails decides it.
use Rattle.std.proofs.Common.{sym, ◌∙◌, arith}
use Rattle.sheet_records.proofs.Tests.{one_fails}
use Rattle.sheet_records.proofs.bytes.Sheet.domains_good.Goals as goal

pub returns-then-not-domain_good : goal.returns-then-not-domain_good
returns-then-not-domain_good c =
    sym (one_fails _ _ c.loop-i.i (omega arith) (omega arith) (sym c.domain_good.ensures ∙ c.if-not-domain_good.true))
