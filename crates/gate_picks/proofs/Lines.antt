-- Two different agents of 1 to 12 have a channel. (`to-channel` under a name that the source can cite.)
use Rattle.abt_shape.proofs.Numbering.{to-channel}

pub ruleset channel = (to-channel)
