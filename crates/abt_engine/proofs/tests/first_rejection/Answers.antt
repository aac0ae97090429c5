-- The tests that the definition makes, in its order.
use Rattle.std.proofs.Common.{sym, ◌∙◌}
use Rattle.abt_engine.proofs.Testing.{bad, stands, empty, passes}
use Rattle.abt_engine.proofs.tests.first_rejection.Goals as goal

pub returns-then-not-is_line : goal.returns-then-not-is_line
returns-then-not-is_line c = bad _ _ _ _ _ (sym c.is_line.ensures ∙ c.if-not-is_line.true)

pub returns-then-unsolvable : goal.returns-then-unsolvable
returns-then-unsolvable c = stands _ _ _ _ _ (sym c.is_line.ensures ∙ c.if-not-is_line.false) c.if-unsolvable.true

pub returns-then-digit-eq0 : goal.returns-then-digit-eq0
returns-then-digit-eq0 c = empty _ _ _ _ _ (sym c.is_line.ensures ∙ c.if-not-is_line.false) c.if-unsolvable.false _ c.digit.ensures.0 c.if-digit-eq0.true

pub returns-else-digit-eq0 : goal.returns-else-digit-eq0
returns-else-digit-eq0 c = passes _ _ _ _ _ (sym c.is_line.ensures ∙ c.if-not-is_line.false) c.if-unsolvable.false _ c.digit.ensures.0 c.if-digit-eq0.false
