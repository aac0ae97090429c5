-- What does not fit is at the top. Assumes nothing.
use Rattle.std.proofs.Common.{◌+◌, ◌*◌, arith}
use Rattle.support_buffer.proofs.Numbers.{capped-least}
use Rattle.support_buffer.proofs.with_digit.Goals as goal

pub returns : goal.returns
returns c = omega (arith, capped-least (10 * c.args.value + c.args.digit))
