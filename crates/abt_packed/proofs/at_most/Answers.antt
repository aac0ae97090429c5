-- `at_most` compares the digits of two words.
-- Those of odd place, and those of even place a digit further on.
use Rattle.std.proofs.Common.{sym, ◌∙◌}
use Rattle.abt_packed.proofs.Compared.{each-compared}
use Rattle.abt_packed.proofs.at_most.Goals as goal

pub returns-then-odd_at_most : goal.returns-then-odd_at_most
returns-then-odd_at_most c =
    sym (each-compared c.args.x c.args.y
    ∙ rw (← c.odd_at_most.ensures, c.if-odd_at_most.true) (sym c.odd_at_most-then-odd_at_most.ensures))

pub returns-else-odd_at_most : goal.returns-else-odd_at_most
returns-else-odd_at_most c = c.if-odd_at_most.false ∙ sym (each-compared c.args.x c.args.y ∙ rw (← c.odd_at_most.ensures, c.if-odd_at_most.false))
