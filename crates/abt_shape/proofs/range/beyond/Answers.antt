-- `beyond` has the bytes behind a domain.
use Rattle.std.proofs.Common.{arith}
use Rattle.abt_shape.proofs.Overlaid.{none-beyond, bytes-beyond}
use Rattle.abt_shape.proofs.range.beyond.Goals as goal

pub returns-then-d-ge8 : goal.returns-then-d-ge8
returns-then-d-ge8 c = none-beyond c.args.d c.if-d-ge8.true

pub returns-else-d-ge8 : goal.returns-else-d-ge8
returns-else-d-ge8 c = bytes-beyond c.args.d (omega arith)
