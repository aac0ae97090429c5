-- `conflicts_at` is one byte of a word of bans.
use Rattle.abt_packed.specs.Packed.{field}
use Rattle.abt_choosing.specs.Conflicts.{conflicts_at}
use Rattle.abt_choosing.proofs.conflict_masks.conflicts_at.Goals as goal

pub returns : goal.returns
unfolding conflicts_at field
returns c = c.field.ensures
