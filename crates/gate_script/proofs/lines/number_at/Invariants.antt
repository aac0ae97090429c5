-- The number that the digits say. Invariant: what is read so far, with the bytes left, says the same.
use Rattle.std.proofs.Common.{◌≡◌, drop}
use Rattle.gate_script.specs.Lines.{value_from}
use Rattle.gate_script.proofs.lines.number_at.Given as goal

abbrev pub invariant-loop-b : goal.invariant-loop-b
invariant-loop-b l = value_from 0 l.bytes ≡ value_from l.value (drop l.b-index l.bytes)
