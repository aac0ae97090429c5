use Rattle.support_cli.proofs.Answering.{told}
use Rattle.support_cli.proofs.finish.tell.Goals as goal

pub returns : goal.returns
returns g c = told _ _ _ _ _ _ _ c.put.ensures c.end.ensures.said c.end.ensures.status
