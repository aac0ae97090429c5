use Rattle.support_cli.proofs.Answering.{printed}
use Rattle.season_cli.specs.Answers.{wrong_answer}
use Rattle.season_cli.proofs.put_wrong.Goals as goal

pub returns : goal.returns
unfolding wrong_answer
returns g c = printed _ _ _ _ _ _ _ (rw c.wrong_what.ensures at c.say.ensures) c.end.ensures.said c.end.ensures.status
