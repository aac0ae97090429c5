-- The masks of the agents before the k-th stand in the arrays.
use Rattle.std.proofs.Common.{◌≡◌, map, length, take}
use Rattle.abt_record.proofs.Whole.{listens_of, informs_of}
use Rattle.abt_record.proofs.Network.frame.Given as goal

abbrev pub invariant-loop-k : goal.invariant-loop-k
invariant-loop-k l =
    (length l.listens ≡ 12)
    × (length l.informs ≡ 12)
    × (take l.k l.listens ≡ take l.k (map listens_of l.self.agents))
    × (take l.k l.informs ≡ take l.k (map informs_of l.self.agents))
