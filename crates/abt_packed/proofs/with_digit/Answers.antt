-- `with_digit` changes one digit of a word.
-- Its four bits.
use Rattle.abt_packed.proofs.Digits.{digit-changed}
use Rattle.abt_packed.proofs.with_digit.Goals as goal

pub returns : goal.returns
returns c = rw c.with_field.ensures (digit-changed _ _ _ c.requires.0 c.requires.2)
