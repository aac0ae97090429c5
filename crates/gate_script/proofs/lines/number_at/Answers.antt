-- The number that the digits say. Invariant: what is read so far, with the bytes left, says the same.
use Rattle.std.proofs.Common.{sym, ap, ◌∙◌, arith}
use Rattle.gate_script.specs.Lines.{value_from}
use Rattle.gate_script.proofs.Reading.{digit-bounds, none_left, value-ends, value-goes}
use Rattle.gate_script.proofs.lines.number_at.Goals as goal

pub returns-then-not-is_digit : goal.returns-then-not-is_digit
returns-then-not-is_digit c =
    sym (c.loop-b.invariant ∙ value-ends _ _ c.loop-b-test.true _ (sym c.is_digit.ensures ∙ c.if-not-is_digit.true))

pub with_digit-value-requires : goal.with_digit-value-requires
with_digit-value-requires c = digit-bounds _ (sym c.is_digit.ensures ∙ c.if-not-is_digit.false)

pub loop-b-preserved : goal.loop-b-preserved
loop-b-preserved c =
    rw c.with_digit-value.ensures
    (c.loop-b.invariant ∙ value-goes _ _ c.loop-b-test.true _ (sym c.is_digit.ensures ∙ c.if-not-is_digit.false))

pub returns : goal.returns
unfolding value_from
returns c = sym (c.loop-b.invariant ∙ ap (value_from c.loop-b.value) (none_left _ _ (omega arith) c.loop-b-test.false))
