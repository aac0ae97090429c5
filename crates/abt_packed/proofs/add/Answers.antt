-- `add` puts one agent into a set.
-- One bit more.
use Rattle.abt_packed.proofs.Sets.{member-add}
use Rattle.abt_packed.proofs.add.Goals as goal

pub returns : goal.returns
returns c = member-add _ _ c.requires.0 c.requires.1
