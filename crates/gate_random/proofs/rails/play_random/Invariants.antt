-- The deliveries are made one by one, and each is counted.
use Rattle.std.proofs.Common.{◌+◌, ◌≤◌, ◌≡◌}
use Rattle.abt_record.specs.Abstract.{network_of}
use Rattle.gate_random.specs.Listing.{Deliveries}
use Rattle.gate_random.proofs.rails.play_random.Given as goal

abbrev pub invariant-loop : goal.invariant-loop
invariant-loop l =
    Deliveries (network_of l.initial.l.rail) l.l.accepted l.l.refused (network_of l.l.rail) × (l.l.accepted + l.l.refused ≡ l.counter) × (l.l.wrong ≤ l.counter)
