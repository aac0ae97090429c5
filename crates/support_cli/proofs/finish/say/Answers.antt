use Rattle.std.proofs.Common.{[], ◌∷◌}
use Rattle.model_base.specs.Decimal.{newline}
use Rattle.support_cli.proofs.Putting.{puts_three}
use Rattle.support_cli.proofs.finish.say.Goals as goal

pub returns : goal.returns
unfolding newline
returns g c = puts_three c.args.what.now c.args.word.now (10 ∷ []) _ _ _ _ c.put.ensures c.put-2.ensures c.put-3.ensures
