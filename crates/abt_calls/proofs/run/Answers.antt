-- A run is answered as the definitions' run.
-- Above the network nothing changes.
use Rattle.abt_calls.specs.Abstract.{came_of}
use Rattle.abt_calls.proofs.Making.{runs}
use Rattle.abt_calls.proofs.run.Goals as goal

pub returns : goal.returns
unfolding came_of
returns c = runs c.args.d c.run-answer.result c.unless_refused.result c.args.rounds c.run-answer.ensures.runs_as c.unless_refused.ensures
