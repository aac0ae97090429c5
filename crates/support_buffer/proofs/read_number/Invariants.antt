-- Digit by digit, what is read so far says the same number with the digits left. Assumes nothing.
use Rattle.support_buffer.proofs.Numbers.{Reading}
use Rattle.support_buffer.proofs.read_number.Given as goal

abbrev pub invariant-loop-b : goal.invariant-loop-b
invariant-loop-b l = Reading l.s l.value l.b-index
