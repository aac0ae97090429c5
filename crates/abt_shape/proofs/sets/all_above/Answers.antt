-- The bits up to i are 0.
use Rattle.std.proofs.Common.{sym, arith, one-mul, shl_exact}
use Rattle.abt_shape.proofs.Words.{in-above}
use Rattle.abt_shape.proofs.sets.all_above.Goals as goal

pub returns : goal.returns
returns c =
    rw (shl_exact {a = 1} 1 c.args.i 16 (omega arith) (omega arith), one-mul)
    (sym (in-above c.args.set c.args.i (omega arith)))
