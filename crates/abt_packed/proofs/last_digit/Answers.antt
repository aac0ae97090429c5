-- `last_digit` is the highest digit that is not 0, if there is one.
-- The zeros at the word's high end.
use Rattle.std.proofs.Common.{sym, arith}
use Rattle.abt_packed.proofs.Ends.{last-named, nobody-named}
use Rattle.abt_packed.proofs.last_digit.Goals as goal

pub returns-then-x-eq0-clause-found : goal.returns-then-x-eq0-clause-found
returns-then-x-eq0-clause-found c = rw c.if-x-eq0.true (sym nobody-named)

pub returns-else-x-eq0-clause-found : goal.returns-else-x-eq0-clause-found
returns-else-x-eq0-clause-found c = sym (last-named c.args.x (omega (arith, c.if-x-eq0.false)) (omega arith))
