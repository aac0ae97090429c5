-- A round adds at most one to the count of full rounds.
-- Full or not.
use Rattle.std.proofs.Common.{◌≤◌, Bool, true, false, arith}
use Rattle.model_network.specs.Run.{one_if}

pub one_at_most : (b : Bool) → one_if b ≤ 1
unfolding one_if
one_at_most true = omega arith
one_at_most false = omega arith
