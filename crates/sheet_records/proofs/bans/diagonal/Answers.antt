-- `diagonal` is the set of the pairs with gap k - 7.
-- By computation, for each of the fifteen gaps.
use Rattle.std.proofs.Common.{lt-ltb, le-ltb}
use Rattle.sheet_records.proofs.Pairs.{diagonal, diagonal-pairs}
use Rattle.sheet_records.proofs.bans.diagonal.Goals as goal

pub returns-then-k-lt7 : goal.returns-then-k-lt7
unfolding diagonal
returns-then-k-lt7 c = rw (lt-ltb c.args.k 7 c.if-k-lt7.true) at (diagonal-pairs c.args.k c.requires)

pub returns-else-k-lt7 : goal.returns-else-k-lt7
unfolding diagonal
returns-else-k-lt7 c = rw (le-ltb c.args.k 7 c.if-k-lt7.false) at (diagonal-pairs c.args.k c.requires)
