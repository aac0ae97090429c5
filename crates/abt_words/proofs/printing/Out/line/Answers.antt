-- What stands before, the number and the newline, one behind the other. Assumes nothing.
use Rattle.std.proofs.Common.{[], ◌∷◌}
use Rattle.model_base.specs.Decimal.{decimal, newline}
use Rattle.support_cli.proofs.Putting.{puts_three}
use Rattle.abt_words.proofs.printing.Out.line.Goals as goal

pub returns : goal.returns
unfolding newline
returns g c = puts_three c.args.before.now (decimal c.args.n) (10 ∷ []) _ _ _ _ c.put.ensures c.number.ensures c.put-2.ensures
