-- `in_domain` is whether an agent owns a value.
-- A digit of the domains' word.
use Rattle.std.proofs.Common.{lt-ltb, le-ltb}
use Rattle.model_sheet.specs.Problem.{owns}
use Rattle.model_base.specs.Finite.{within}
use Rattle.abt_shape.proofs.range.in_domain.Goals as goal

pub returns-then-v-gt0 : goal.returns-then-v-gt0
unfolding owns within
returns-then-v-gt0 c = λ p o. rw (lt-ltb 0 c.args.v c.if-v-gt0.true, ← o c.args.k, ← c.digit.ensures.0)

pub returns-else-v-gt0 : goal.returns-else-v-gt0
unfolding owns within
returns-else-v-gt0 c = λ p o. rw (le-ltb 0 c.args.v c.if-v-gt0.false)
