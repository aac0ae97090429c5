-- A pick came to the line that it served, or to its refusal.
-- By its answer.
use Rattle.std.proofs.Common.{refl}
use Rattle.abt_calls.specs.Outcomes.{came_to_pick}
use Rattle.abt_calls.specs.Abstract.{came_of}
use Rattle.abt_calls.proofs.picked.Goals as goal

pub returns-in-Ok : goal.returns-in-Ok
unfolding came_of came_to_pick
returns-in-Ok c = rw c.in-Ok.is refl

pub returns-in-Err : goal.returns-in-Err
unfolding came_of came_to_pick
returns-in-Err c = rw c.in-Err.is refl
