-- Digit by digit, what is read so far says the same number with the digits left. Assumes nothing.
use Rattle.sheet_text_statements.proofs.Numerals.{Counted}
use Rattle.sheet_text_statements.proofs.numbers.read_numeral.Given as goal

abbrev pub invariant-loop-b : goal.invariant-loop-b
invariant-loop-b l = Counted l.s l.value l.b-index
