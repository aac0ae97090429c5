-- What a list of picks, deliveries and runs leaves is what the calls that it comes to leave.
-- A pick that serves a line is the delivery on it, and one that serves none changes nothing; so by induction along the list.
use Rattle.std.proofs.Common.{None, Option, Some, ◌≡◌, refl, sym, ap, ◌∙◌, List, [], ◌∷◌, ◌++◌}
use Rattle.model_network.specs.Network.{Network}
use Rattle.model_network.specs.Run.{Line}
use Rattle.theorems_network.specs.Calls.{Call, left_by, left_by_all}
use Rattle.model_dispatch.specs.Dispatch.{Dispatcher, pick}
use Rattle.model_dispatch.proofs.Theorems.{picks-deliver}
use Rattle.theorems_dispatch.specs.Steps.{Step, Called, Picked, left_by_step, left_by_steps, delivery_of, calls_by, calls_in}
use Rattle.theorems_dispatch.specs.Claims.{PicksAreCalls}

left-append : (xs ys : List Call) (w : Network) → left_by_all (xs ++ ys) w ≡ left_by_all ys (left_by_all xs w)
unfolding left_by_all
left-append [] ys w = refl
left-append (x ∷ xs) ys w = left-append xs ys (left_by x w)

pick-comes : (d : Dispatcher) (wish : Line) (served : Option Line) → (pick d wish).served ≡ served
    → (pick d wish).state.network ≡ left_by_all (delivery_of served) d.network
unfolding delivery_of left_by_all left_by
pick-comes d wish None e = ap (λ (x : Dispatcher). x.network) ((picks-deliver d wish).refused e)
pick-comes d wish (Some l) e = ((picks-deliver d wish).served l e).0

step-comes : (d : Dispatcher) (s : Step) → (left_by_step s d).network ≡ left_by_all (calls_by s d) d.network
unfolding left_by_step calls_by left_by_all
step-comes d (Called c) = refl
step-comes d (Picked wish) = pick-comes d wish (pick d wish).served refl

pub comes-to : PicksAreCalls
unfolding left_by_steps calls_in left_by_all
comes-to d [] = refl
comes-to d (s ∷ ss) =
    comes-to (left_by_step s d) ss
    ∙ ap (left_by_all (calls_in ss (left_by_step s d))) (step-comes d s)
    ∙ sym (left-append (calls_by s d) (calls_in ss (left_by_step s d)) d.network)
