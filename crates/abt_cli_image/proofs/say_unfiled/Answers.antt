-- By the rule.
use Rattle.std.proofs.Common.{sym, ◌∙◌}
use Rattle.model_network.specs.Network.{bad_rule}
use Rattle.abt_cli_image.specs.Answers.{no_file, unfiled}
use Rattle.abt_cli_image.proofs.say_unfiled.Goals as goal

pub returns-then-not-is_rule : goal.returns-then-not-is_rule
unfolding unfiled bad_rule
returns-then-not-is_rule g c = rw (unfiled, ← c.rule_of.ensures, sym c.is_rule.ensures ∙ c.if-not-is_rule.true) c.refuse.ensures

pub returns : goal.returns
unfolding unfiled no_file
returns g c = rw (unfiled, ← c.rule_of.ensures, sym c.is_rule.ensures ∙ c.if-not-is_rule.false) c.complain.ensures
