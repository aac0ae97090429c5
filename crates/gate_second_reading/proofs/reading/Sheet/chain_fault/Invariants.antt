-- The chain is followed for as many records as there are: what is left is the fault of the rest.
use Rattle.std.proofs.Common.{◌-◌, ◌≡◌}
use Rattle.gate_second_reading.specs.Bytes.{word_of}
use Rattle.gate_second_reading.specs.Faults.{chain_fault}
use Rattle.gate_second_reading.proofs.reading.Sheet.chain_fault.Given as goal

abbrev pub invariant-loop : goal.invariant-loop
invariant-loop l =
    let s = l.self.bytes.now in chain_fault (word_of s 4) s (word_of s 2) ≡ chain_fault (l.end - l.counter) s l.r
