-- Each clause is proved where its claim is stated; these are the proofs. Assumes nothing.
use Rattle.promises.proofs.Nights.{marked-nights}
use Rattle.model_network.proofs.Nights.{nights-hold}
use Rattle.model_cases.proofs.Further.{further-nights-hold}
use Rattle.model_cases.proofs.Quiet.{quiet-nights-hold}
use Rattle.promises.proofs.worked.nights.Goals as goal

pub returns-clause-marked : goal.returns-clause-marked
returns-clause-marked c = marked-nights

pub returns-clause-first : goal.returns-clause-first
returns-clause-first c = nights-hold

pub returns-clause-further : goal.returns-clause-further
returns-clause-further c = further-nights-hold

pub returns-clause-quiet : goal.returns-clause-quiet
returns-clause-quiet c = quiet-nights-hold
