-- `decode` is the definition's `decode`.
-- Each way out is the check that stops there; the last is the walk.
use Rattle.std.proofs.Common.{◌≡◌, sym, ◌∙◌, true, ne_eqb}
use Rattle.model_sheet.specs.Sheet.{fault_number, header_length, record_length, records_in, header_good}
use Rattle.sheet_reader.specs.Abstract.{outcome, outcome_of}
use Rattle.model_sheet.proofs.Checks.{short, bad-header, bad-length}
use Rattle.sheet_reader.proofs.decode.Goals as goal

pub returns-then-s-lt24 : goal.returns-then-s-lt24
unfolding fault_number outcome outcome_of
returns-then-s-lt24 c = rw (short _ c.if-s-lt24.true)

pub returns-then-not-header_good : goal.returns-then-not-header_good
unfolding fault_number outcome outcome_of
returns-then-not-header_good c = rw (bad-header _ c.if-s-lt24.false (sym c.header_good.ensures ∙ c.if-not-header_good.true))

pub returns-then-s-two_bytes : goal.returns-then-s-two_bytes
unfolding fault_number records_in outcome outcome_of
returns-then-s-two_bytes c =
    let good : header_good c.args.s.now ≡ true =
    sym c.header_good.ensures ∙ c.if-not-header_good.false in
    let other = rw c.two_bytes.ensures.0 at (ne_eqb _ _ c.if-s-two_bytes.true) in
    rw (bad-length _ c.if-s-lt24.false good other)

pub walk-requires : goal.walk-requires
unfolding header_length record_length records_in
walk-requires c =
    record { header = sym c.header_good.ensures ∙ c.if-not-header_good.false; total = rw (← c.two_bytes.ensures.0) c.if-s-two_bytes.false }
