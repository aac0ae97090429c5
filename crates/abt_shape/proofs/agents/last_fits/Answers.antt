-- `last_fits` is the clause on the last value that an agent took.
-- As it is written.
use Rattle.std.proofs.Common.{arith, eq-eqb, ne_eqb, lt-ltb, le-leb}
use Rattle.model_base.specs.Finite.{within}
use Rattle.model_base.proofs.Tests.{not_within}
use Rattle.model_sheet.specs.Problem.{owns}
use Rattle.model_network.specs.Shape.{last_fits}
use Rattle.abt_shape.proofs.agents.last_fits.Goals as goal

pub returns-then-value-eq0 : goal.returns-then-value-eq0
unfolding last_fits owns within
returns-then-value-eq0 c =
    λ w i d v l. rw (d, v, l, lt-ltb 0 c.args.last c.if-last-d.true.0, le-leb c.args.last c.args.d c.if-last-d.true.1, eq-eqb c.args.value 0 c.if-value-eq0.true)

pub returns-else-value-eq0 : goal.returns-else-value-eq0
unfolding last_fits owns within
returns-else-value-eq0 c =
    λ w i d v l. rw (d, v, l, lt-ltb 0 c.args.last c.if-last-d.true.0, le-leb c.args.last c.args.d c.if-last-d.true.1, ne_eqb c.args.value 0 c.if-value-eq0.false)

pub returns-else-last-d : goal.returns-else-last-d
unfolding last_fits owns
returns-else-last-d c = λ w i d v l. rw (d, v, l, not_within c.args.d c.args.last (λ a b. omega arith)) (cc)
