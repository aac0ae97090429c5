-- `give_reasons` gives the reasons of the values tried, and joins the left sides on the way.
-- Value by value, upward. The invariant: the first i have theirs, and the figure is the union of that many.
use Rattle.std.proofs.Common.{◌/◌, ◌^◌, ◌≡◌, length}
use Rattle.abt_packed.specs.Packed.{assignment}
use Rattle.model_agent.specs.Choosing.{union}
use Rattle.abt_choosing.specs.Choosing.{nogoods_of, Reasoned}
use Rattle.abt_choosing.proofs.give_reasons.Given as goal

abbrev pub invariant-loop-i : goal.invariant-loop-i
invariant-loop-i l =
    (length l.nogoods ≡ 8) × Reasoned l.own (assignment l.view) l.conflicts l.i (nogoods_of l.nogood_mask l.initial.nogoods) (nogoods_of l.reasoned l.nogoods)
    × (assignment l.resolvent ≡ union l.i (nogoods_of l.reasoned l.nogoods)) × (l.rest ≡ l.nogood_mask / 2 ^ l.i)
