-- `odd_at_most` compares the digits of odd place of two words.
-- Bytes apart from one another.
use Rattle.abt_packed.proofs.Compared.{odd-compared}
use Rattle.abt_packed.proofs.odd_at_most.Goals as goal

pub returns : goal.returns
returns c = odd-compared c.args.x c.args.y
