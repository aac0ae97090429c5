-- `digit` is one digit of a word.
-- Its four bits.
use Rattle.std.proofs.Common.{◌∙◌, arith}
use Rattle.abt_packed.specs.Packed.{field}
use Rattle.abt_packed.proofs.Digits.{value-at}
use Rattle.abt_packed.proofs.digit.Goals as goal

pub returns : goal.returns
unfolding field
returns c = (c.field.ensures ∙ value-at _ _ c.requires.0, omega (arith, c.field.ensures))
