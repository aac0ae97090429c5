-- The scanners are asked one by one: the first k of them have been.
use Rattle.std.proofs.Common.{Option, ℕ, ◌≡◌, length}
use Rattle.gate_second_reading.specs.Bans.{slot_from}
use Rattle.model_network.specs.Delivery.{ask_value}
use Rattle.abt_record.specs.Abstract.{network_of}
use Rattle.abt_record.specs.declared.Network.{Network}
use Rattle.gate_second_reading.proofs.Asking.{Asked}
use Rattle.gate_second_reading.proofs.assigned.assigned_choice.Given as goal

-- the slot that the rail answers for scanner k
abbrev pub asked : Network → ℕ → Option ℕ
asked rail k = slot_from (ask_value (network_of rail) k).value

abbrev pub invariant-loop-k : goal.invariant-loop-k
invariant-loop-k l = (length l.slot-items ≡ 12) × Asked (asked l.rail) l.slot-items l.k
