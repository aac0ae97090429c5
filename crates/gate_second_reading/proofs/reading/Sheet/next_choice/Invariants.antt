-- The scanners are gone through one by one: what is left are those from scanner k + 1 on.
use Rattle.std.proofs.Common.{◌+◌, ◌-◌, ◌≡◌, length}
use Rattle.gate_second_reading.specs.Choices.{next_from, next_choice}
use Rattle.gate_second_reading.proofs.reading.Sheet.next_choice.Given as goal

abbrev pub invariant-loop-k : goal.invariant-loop-k
invariant-loop-k l = (length l.of ≡ 12) × (next_choice l.self.bytes.now l.fn.c ≡ next_from (12 - l.k) l.self.bytes.now (l.k + 1) l.of)
