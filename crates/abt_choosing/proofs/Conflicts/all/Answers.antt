-- `all` is the mask of the own values that some agent bans.
-- All the bytes laid over each other.
use Rattle.std.proofs.Common.{pred, arith}
use Rattle.abt_choosing.proofs.Bytes.{overlaid-bit}
use Rattle.abt_choosing.proofs.Conflicts.all.Goals as goal

pub returns : goal.returns
returns c = λ w l h. overlaid-bit c.args.self (pred w) (omega arith)
