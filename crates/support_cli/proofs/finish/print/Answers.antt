use Rattle.support_cli.proofs.Answering.{printed}
use Rattle.support_cli.proofs.finish.print.Goals as goal

pub returns : goal.returns
returns g c = printed _ _ _ _ _ _ _ c.put.ensures c.end.ensures.said c.end.ensures.status
