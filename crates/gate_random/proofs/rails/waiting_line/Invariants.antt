-- The lines are looked at one by one, from this one on and round: nothing waits on those that were passed.
use Rattle.std.proofs.Common.{ℕ, ◌+◌, ◌%◌, ◌<◌, ◌≡◌}
use Rattle.gate_random.specs.Lines.{held_on}
use Rattle.gate_random.proofs.rails.waiting_line.Given as goal

abbrev pub invariant-loop-k : goal.invariant-loop-k
invariant-loop-k l = ((q : ℕ) → q < l.k → held_on l.counts ((l.first % 132 + q) % 132) ≡ 0)
