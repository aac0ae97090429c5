-- A pick is answered as the definitions' pick.
-- By the contract of the dispatcher's pick.
use Rattle.abt_calls.proofs.Making.{picks}
use Rattle.abt_calls.proofs.pick.Goals as goal

pub returns : goal.returns
returns c = picks c.args.d c.args.wish c.pick-answer.result c.picked.result c.pick-answer.ensures c.picked.ensures
