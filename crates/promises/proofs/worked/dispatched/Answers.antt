-- Each clause is proved where its claim is stated; these are the proofs. Assumes nothing.
use Rattle.model_dispatch.proofs.Nights.{nights-hold}
use Rattle.model_cases.proofs.Dispatched.{dispatched-nights-hold}
use Rattle.promises.proofs.worked.dispatched.Goals as goal

pub returns-clause-first : goal.returns-clause-first
returns-clause-first c = nights-hold

pub returns-clause-further : goal.returns-clause-further
returns-clause-further c = dispatched-nights-hold
