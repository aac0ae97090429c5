-- `one_less` takes one off a digit of a word.
-- The word with that digit changed.
use Rattle.abt_packed.proofs.Digits.{one_less}
use Rattle.abt_packed.proofs.one_less.Goals as goal

pub overflow_sub-result-2 : goal.overflow_sub-result-2
overflow_sub-result-2 c = (one_less c.args.x c.args.k c.requires.0 c.requires.1 c.requires.2).0

pub returns : goal.returns
returns c = let t = one_less c.args.x c.args.k c.requires.0 c.requires.1 c.requires.2 in (t.1, t.2)
