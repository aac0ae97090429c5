-- `holds_value` is the clause on an agent's value.
-- None, or an owned one.
use Rattle.std.proofs.Common.{sym, ◌∙◌, eq-eqb, ne_eqb}
use Rattle.abt_shape.proofs.Clauses.{value-is}
use Rattle.abt_shape.proofs.agents.holds_value.Goals as goal

pub returns-then-value-eq0 : goal.returns-then-value-eq0
returns-then-value-eq0 c = λ w i v e f. sym (value-is w i c.args.d c.args.value e f ∙ rw (eq-eqb c.args.value 0 c.if-value-eq0.true) v)

pub returns-else-value-eq0 : goal.returns-else-value-eq0
returns-else-value-eq0 c = λ w i v e f. sym (value-is w i c.args.d c.args.value e f ∙ rw (ne_eqb c.args.value 0 c.if-value-eq0.false))
