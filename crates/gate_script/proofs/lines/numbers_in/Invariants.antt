-- The numbers in a line. Invariant: those kept so far, with those in the bytes left, come to the same.
use Rattle.std.proofs.Common.{◌≡◌, drop}
use Rattle.gate_script.specs.Lines.{numbers_after, no_numbers, with_numbers}
use Rattle.gate_script.proofs.lines.numbers_in.Given as goal

abbrev pub invariant-loop-i : goal.invariant-loop-i
invariant-loop-i l = with_numbers (numbers_after 32 l.line) no_numbers ≡ with_numbers (numbers_after l.before (drop l.i l.line)) l.n
