-- Digit by digit, what is read so far says the same number with the digits left. Assumes nothing.
use Rattle.std.proofs.Common.{sym, ◌∙◌, arith, eqb-true}
use Rattle.sheet_text_statements.proofs.Numerals.{empty-none, no-numeral, low_byte, high_byte, no_room, counted-one, counted-all}
use Rattle.sheet_text_statements.proofs.numbers.read_numeral.Goals as goal

pub returns-then-is_empty : goal.returns-then-is_empty
returns-then-is_empty c = empty-none _ (eqb-true _ 0 (sym c.is_empty.ensures ∙ c.if-is_empty.true))

pub returns-in_err-checked_mul-in-48-to-57 : goal.returns-in_err-checked_mul-in-48-to-57
returns-in_err-checked_mul-in-48-to-57 c =
    let h = c.in_err-checked_mul-in-48-to-57.ensures in
    c.from_residual.ensures ∙ no-numeral _ (no_room _ _ _ c.loop-b.invariant (omega arith) (omega arith))

pub returns-in_err-value-in-48-to-57 : goal.returns-in_err-value-in-48-to-57
returns-in_err-value-in-48-to-57 c =
    let m = c.in_ok-checked_mul-in-48-to-57.ensures in
    let h = c.in_err-value-in-48-to-57.ensures in
    c.from_residual-in_err-value-in-48-to-57.ensures
    ∙ no-numeral _ (no_room _ _ _ c.loop-b.invariant (omega arith) (omega (arith, m, h)))

pub returns-in_default : goal.returns-in_default
returns-in_default c = no-numeral _ (low_byte _ _ _ c.loop-b.invariant (omega arith) (omega arith))

pub returns-in_default-2 : goal.returns-in_default-2
returns-in_default-2 c = no-numeral _ (high_byte _ _ _ c.loop-b.invariant (omega arith) (omega arith))

pub loop-b-preserved : goal.loop-b-preserved
loop-b-preserved c =
    let m = c.in_ok-checked_mul-in-48-to-57.ensures in
    let n = c.in_ok-value-in-48-to-57.ensures in
    counted-one _ _ _ c.loop-b.invariant (omega arith) (omega arith) (omega arith) _ (omega (arith, m, n)) (omega (arith, m, n))

pub returns : goal.returns
returns c = counted-all _ _ _ c.loop-b.invariant c.loop-b-test.false
