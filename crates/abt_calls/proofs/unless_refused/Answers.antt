-- What is refused has a number that is not 0.
-- By the refusal, where there is one.
use Rattle.std.proofs.Common.{sym}
use Rattle.abt_calls.specs.Abstract.{came_of}
use Rattle.abt_calls.proofs.Making.{refused_with, not_refused}
use Rattle.abt_calls.proofs.unless_refused.Goals as goal

pub returns-in-None : goal.returns-in-None
returns-in-None c = rw c.in-None.is (sym (not_refused (came_of c.args.accepted)))

pub returns-in-Some : goal.returns-in-Some
unfolding came_of
returns-in-Some c = rw c.in-Some.is (sym (refused_with c.in-Some.rejection (came_of c.args.accepted)))
