-- `Sheet::row_pairs` is the set of the pairs that a record bans.
-- Byte 1 decides which of the two sets it is.
use Rattle.std.proofs.Common.{sym, ◌∙◌, arith, eqb-true}
use borrow.Author.Tests.{eqb-false}
use Rattle.model_base.proofs.Tests.{within-true}
use Rattle.sheet_records.proofs.Records.{good-row, values-owned, gap_row, value_row}
use Rattle.sheet_records.proofs.bytes.Sheet.row_pairs.Goals as goal

pub domain-d-requires : goal.domain-d-requires
domain-d-requires c = omega (arith, good-row _ _ _ c.requires c.row-row.ensures)

pub domain-e-requires : goal.domain-e-requires
domain-e-requires c = omega (arith, good-row _ _ _ c.requires c.row-row.ensures)

pub gap_pairs-requires : goal.gap_pairs-requires
gap_pairs-requires c =
    let f = good-row _ _ _ c.requires c.row-row.ensures in
    rw (c.domain-d.ensures, c.domain-e.ensures) (f.lowers.0, f.lowers.1, f.highers.0, f.highers.1)

pub returns-then-of_gaps : goal.returns-then-of_gaps
returns-then-of_gaps c =
    gap_row _ c.args.r _ _ c.row-row.ensures (eqb-true _ 2 (sym c.of_gaps.ensures ∙ c.if-of_gaps.true))
    (rw (c.domain-d.ensures, c.domain-e.ensures, c.of.ensures.0, c.of.ensures.1) at c.gap_pairs.ensures)

pub one_pair-requires : goal.one_pair-requires
one_pair-requires c =
    let f = good-row _ _ _ c.requires c.row-row.ensures in
    let o = values-owned _ _ f (eqb-false _ 2 (sym c.of_gaps.ensures ∙ c.if-of_gaps.false)) in
    let v = within-true _ _ o.0 in
    let w = within-true _ _ o.1 in
    (v.0, omega (arith, f.lowers), w.0, omega (arith, f.highers))

pub returns-else-of_gaps : goal.returns-else-of_gaps
returns-else-of_gaps c = value_row _ c.args.r _ _ c.requires c.row-row.ensures (eqb-false _ 2 (sym c.of_gaps.ensures ∙ c.if-of_gaps.false)) c.one_pair.ensures
