-- A delivery is answered as the definitions' delivery.
-- Above the network nothing changes.
use Rattle.abt_calls.specs.Abstract.{came_of}
use Rattle.abt_calls.proofs.Making.{delivers}
use Rattle.abt_calls.proofs.deliver.Goals as goal

pub returns : goal.returns
unfolding came_of
returns c = delivers c.args.d c.deliver-answer.result c.unless_refused.result c.args.line c.deliver-answer.ensures.delivers_as c.unless_refused.ensures
