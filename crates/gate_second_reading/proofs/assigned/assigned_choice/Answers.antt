-- When all scanners have been asked, each has what it was asked for.
use Rattle.std.proofs.Common.{arith}
use Rattle.gate_second_reading.proofs.Asking.{asked-all}
use Rattle.gate_second_reading.proofs.assigned.assigned_choice.Goals as goal
use Rattle.gate_second_reading.proofs.assigned.assigned_choice.Invariants.{asked}

pub returns : goal.returns
returns c = λ i low high. asked-all (asked c.args.rail) c.loop-k.slot-items c.loop-k.k c.loop-k.invariant.1 i low (omega arith)
