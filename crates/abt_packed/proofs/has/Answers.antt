-- `has` is whether an agent is in a set.
-- Its bit.
use Rattle.abt_packed.proofs.Sets.{member-at}
use Rattle.abt_packed.proofs.has.Goals as goal

pub returns : goal.returns
returns c = member-at _ _ c.requires.0
