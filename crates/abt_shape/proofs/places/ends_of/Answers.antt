-- The two cases: the receiver is below the sender, or beyond it.
use Rattle.abt_shape.proofs.Numbering.{ends_low, ends-high}
use Rattle.abt_shape.proofs.places.ends_of.Goals as goal

pub returns-then-other-from : goal.returns-then-other-from
returns-then-other-from c = ends_low c.args.channel c.requires c.if-other-from.true

pub returns-else-other-from : goal.returns-else-other-from
returns-else-other-from c = ends-high c.args.channel c.requires c.if-other-from.false
