-- `eight_bytes` is the number that they hold.
use Rattle.std.proofs.Common.{arith}
use Rattle.abt_image_reader.proofs.Windows.{number-eight}
use Rattle.abt_image_reader.proofs.bytes.eight_bytes.Goals as goal

pub returns : goal.returns
returns c =
    omega (
      arith,
      number-eight c.args.s.now c.args.k,
      c.from_le_bytes.ensures,
      c.byte.ensures,
      c.byte-2.ensures,
      c.byte-3.ensures,
      c.byte-4.ensures,
      c.byte-5.ensures,
      c.byte-6.ensures,
      c.byte-7.ensures,
      c.byte-8.ensures,
    )
