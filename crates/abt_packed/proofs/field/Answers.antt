-- `field` is one field of a word.
use Rattle.std.proofs.Common.{refl, one-mul, arith, shl_exact}
use Rattle.abt_packed.specs.Packed.{field}
use Rattle.abt_packed.proofs.field.Goals as goal

pub returns : goal.returns
unfolding field
returns g c = rw (shl_exact {a = 1} 1 g.row.BITS 64 (omega arith) (omega (arith, c.requires.1)), one-mul) refl
