-- Digit by digit, what is read so far says the same number with the digits left. Assumes nothing.
use Rattle.std.proofs.Common.{sym, ap, ◌∙◌, ◌+◌, ◌*◌, arith, eqb-true}
use Rattle.model_base.specs.Numerals.{capped}
use Rattle.support_buffer.proofs.Numbers.{no-digits, low_byte, high_byte, reading-goes, reading-ends}
use Rattle.support_buffer.proofs.read_number.Goals as goal

pub returns-then-is_empty : goal.returns-then-is_empty
returns-then-is_empty c = sym (no-digits _ (eqb-true _ 0 (sym c.is_empty.ensures ∙ c.if-is_empty.true)))

pub returns-in_default : goal.returns-in_default
returns-in_default c = sym (low_byte _ _ _ c.loop-b.invariant (omega arith) (omega arith))

pub returns-in_default-2 : goal.returns-in_default-2
returns-in_default-2 c = sym (high_byte _ _ _ c.loop-b.invariant (omega arith) (omega arith) (omega arith))

pub loop-b-preserved : goal.loop-b-preserved
loop-b-preserved c =
    reading-goes _ _ _ c.loop-b.invariant (omega arith) (omega arith) (omega arith) _
    (c.with_digit-value.ensures ∙ ap (λ k. capped (10 * c.loop-b.value + k)) c.from.ensures)

pub returns : goal.returns
returns c = reading-ends _ _ _ c.loop-b.invariant c.loop-b-test.false
