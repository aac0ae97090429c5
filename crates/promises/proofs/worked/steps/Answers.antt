-- Each clause is proved where its claim is stated; these are the proofs. Assumes nothing.
use Rattle.model_agent.proofs.Cases.{steps-hold}
use Rattle.promises.proofs.worked.steps.Goals as goal

pub returns : goal.returns
returns c = record { steps = steps-hold }
