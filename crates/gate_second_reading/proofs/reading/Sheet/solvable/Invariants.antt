-- The choices are tried one by one: what is left are those from this one on.
use Rattle.std.proofs.Common.{◌-◌, ◌≡◌}
use Rattle.gate_second_reading.specs.Choices.{solvable_from, solvable_by}
use Rattle.gate_second_reading.proofs.reading.Sheet.solvable.Given as goal

abbrev pub invariant-loop : goal.invariant-loop
invariant-loop l = solvable_by l.self.bytes.now ≡ solvable_from (40000 - l.counter) l.self.bytes.now l.c
