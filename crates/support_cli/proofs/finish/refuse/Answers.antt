use Rattle.support_cli.specs.Answers.{says_refused}
use Rattle.support_cli.proofs.finish.refuse.Goals as goal

pub returns : goal.returns
unfolding says_refused
returns g c = rw c.refusal_line-count.ensures.text at c.tell.ensures
