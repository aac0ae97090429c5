-- `unowned` is empty exactly if a ban word is between owned values.
use Rattle.std.proofs.Common.{arith}
use Rattle.abt_shape.proofs.Overlaid.{unowned-clear}
use Rattle.abt_shape.proofs.range.unowned.Goals as goal

pub returns : goal.returns
returns c = λ d e b o. unowned-clear d e c.args.rows c.args.columns c.args.word (omega arith) (omega arith) b o
