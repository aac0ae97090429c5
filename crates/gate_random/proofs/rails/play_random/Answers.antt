-- The deliveries are made one by one, and each is counted.
use Rattle.std.proofs.Common.{refl, arith}
use Rattle.gate_random.specs.Listing.{none}
use Rattle.gate_random.proofs.rails.play_random.Goals as goal

pub loop-init : goal.loop-init
loop-init c = (none, refl, omega arith)
