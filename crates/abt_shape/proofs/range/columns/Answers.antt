-- `columns` has so many bits of each byte.
-- All of them, or a number below 256 in each byte.
use Rattle.std.proofs.Common.{arith}
use Rattle.abt_shape.proofs.BanWords.{narrowed, wide}
use Rattle.abt_shape.proofs.range.columns.Goals as goal

pub returns-then-e-ge8 : goal.returns-then-e-ge8
returns-then-e-ge8 c = wide c.args.e c.if-e-ge8.true

pub returns-else-e-ge8 : goal.returns-else-e-ge8
returns-else-e-ge8 c = (narrowed c.args.e (omega arith)).2
