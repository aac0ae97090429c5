-- `decode_as` is the definition's.
-- Each way out is the check that stops there.
use Rattle.std.proofs.Common.{sym, ap, ◌∙◌}
use Rattle.model_sheet.specs.Sheet.{fault_number, byte_at, edition_in}
use Rattle.sheet_reader.specs.Abstract.{outcome, outcome_of}
use Rattle.sheet_editions.proofs.Answers.{as_short, as-other, as_same}
use Rattle.sheet_editions.proofs.decode_as.Goals as goal

pub returns-then-s-lt24 : goal.returns-then-s-lt24
unfolding fault_number outcome outcome_of
returns-then-s-lt24 c = rw (as_short _ _ c.if-s-lt24.true)

pub returns-then-s-number : goal.returns-then-s-number
unfolding fault_number outcome outcome_of byte_at edition_in
returns-then-s-number c = rw (as-other _ _ c.if-s-lt24.false (rw c.number.ensures at c.if-s-number.true))

pub returns-else-s-number : goal.returns-else-s-number
unfolding byte_at edition_in
returns-else-s-number c = c.decode.ensures ∙ ap outcome (sym (as_same _ _ c.if-s-lt24.false (rw c.number.ensures at c.if-s-number.false)))
