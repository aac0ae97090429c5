-- `union_of_nogoods` lays the left sides stored over each other.
-- Value by value, upward. The invariant: those of the first i.
use Rattle.std.proofs.Common.{◌/◌, ◌^◌, ◌≡◌}
use Rattle.abt_choosing.proofs.Blaming.{Overlaid}
use Rattle.abt_choosing.proofs.union_of_nogoods.Given as goal

abbrev pub invariant-loop-nogood : goal.invariant-loop-nogood
invariant-loop-nogood l = Overlaid l.nogood_mask l.nogoods l.nogood-index l.all × (l.rest ≡ l.nogood_mask / 2 ^ l.nogood-index)
