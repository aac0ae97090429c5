-- `bans` says whether some agent bans an own value.
-- That bit of each byte of either word is kept.
use Rattle.std.proofs.Common.{sub-one, arith}
use Rattle.abt_choosing.proofs.Marks.{marks, some-marked}
use Rattle.abt_choosing.proofs.Conflicts.bans.Goals as goal

pub returns : goal.returns
unfolding marks
returns c = rw (← sub-one c.args.w) (some-marked c.args.self _ (omega arith))
