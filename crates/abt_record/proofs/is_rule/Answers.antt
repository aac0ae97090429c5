-- As it is written.
use Rattle.std.proofs.Common.{lt-ltb, le-ltb}
use Rattle.model_base.specs.Finite.{within}
use Rattle.model_network.specs.Network.{is_rule}
use Rattle.abt_record.proofs.is_rule.Goals as goal

pub returns-then-rule-gt0 : goal.returns-then-rule-gt0
unfolding is_rule within
returns-then-rule-gt0 c = rw (lt-ltb 0 c.args.rule c.if-rule-gt0.true)

pub returns-else-rule-gt0 : goal.returns-else-rule-gt0
unfolding is_rule within
returns-else-rule-gt0 c = rw (le-ltb 0 c.args.rule c.if-rule-gt0.false)
