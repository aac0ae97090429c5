-- The line that the search serves, or none.
use Rattle.abt_record.specs.Abstract.{problem_of, network_of}
use Rattle.abt_dispatch.proofs.Standing.{sized}
use Rattle.abt_dispatch.proofs.Picking.{in-turn, nothing}
use Rattle.abt_dispatch.proofs.pick_in_turn.Goals as goal

pub next_in_turn-requires : goal.next_in_turn-requires
unfolding network_of problem_of
next_in_turn-requires c = sized _ c.requires

pub returns-in-Some : goal.returns-in-Some
returns-in-Some c = in-turn _ _ (rw c.in-Some.is at c.next_in_turn.ensures) _ c.one_more.ensures

pub returns-in-None : goal.returns-in-None
returns-in-None c = nothing _ (rw c.in-None.is at c.next_in_turn.ensures) _ c.none_deliverable.ensures
