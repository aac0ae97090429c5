use Rattle.support_cli.proofs.Answering.{said}
use Rattle.support_cli.proofs.finish.complain.Goals as goal

pub returns : goal.returns
returns g c = said _ _ _ _ _ _ _ _ c.say.ensures c.end.ensures.said c.end.ensures.status
