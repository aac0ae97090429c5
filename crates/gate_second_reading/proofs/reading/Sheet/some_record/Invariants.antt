-- The chain is followed for as many records as there are: what is left is the rest of it.
use Rattle.std.proofs.Common.{ℕ, ◌-◌, ◌<◌, ◌≡◌, Bool}
use Rattle.gate_second_reading.specs.Bans.{chain_from, chain_of, some_of}
use Rattle.gate_second_reading.proofs.reading.Sheet.some_record.Given as goal

abbrev pub invariant-loop : goal.invariant-loop
invariant-loop g l =
    (l.r < 65536)
    × ((p : ℕ → Bool) → ((r : ℕ) (b : Bool) → r < 65536 → g.F.Fn.post l.passes (r, tt) b → b ≡ p r)
    → some_of p (chain_of l.self.bytes.now) ≡ some_of p (chain_from (l.end - l.counter) l.self.bytes.now l.r))
