-- `two_bytes` is the number that they hold: a low and a high byte.
use Rattle.std.proofs.Common.{arith}
use Rattle.abt_image_reader.proofs.Windows.{number-two}
use Rattle.abt_image_reader.proofs.bytes.two_bytes.Goals as goal

pub returns : goal.returns
returns c = omega (arith, number-two c.args.s.now c.args.k, c.from_le_bytes.ensures, c.byte.ensures, c.byte-2.ensures)
