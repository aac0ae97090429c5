-- The full rounds that the runs of a list return are those of which the callers are told.
-- A refused run made none, and a pick and a delivery are no runs; so by induction along the list.
use Rattle.std.proofs.Common.{◌≡◌, ℕ, ◌+◌, Bool, true, false, List, [], ◌∷◌, ◌++◌, sym, refl, ap, ap₂, ◌∙◌, zero-add, add-zero, add_assoc, append-nil, eqb, None, Option, Some}
use Rattle.model_base.proofs.Tests.{test}
use Rattle.model_network.specs.Network.{Network}
use Rattle.model_network.specs.Shape.{in_shape}
use Rattle.model_network.specs.Delivery.{rejection_number, answer_number, deliver}
use Rattle.model_network.specs.Run.{Line, idle, Ran, ending_number, ending_at, finish, allowed, run}
use Rattle.theorems_shape.proofs.Runs.{Ends, rests, used, stops, run_ends}
use Rattle.theorems_network.specs.Calls.{Call, Deliver, Run, left_by, left_by_all, made_by, made_by_all}
use Rattle.model_dispatch.specs.Dispatch.{Dispatcher, pick}
use Rattle.theorems_dispatch.specs.Steps.{Step, Called, Picked, left_by_step, left_by_steps, delivery_of, calls_by, calls_in}
use Rattle.theorems_dispatch.proofs.Theorems.{picks-are-calls}
use Rattle.abt_calls.specs.Outcomes.{Came, unless_refused, came_to_call, came_to_pick, came_to, came_by_all, rounds_of, rounds_in}

-- ---- a run: in shape it is not refused

ending-number : (w : Network) (stuck : Bool) → ending_number (ending_at w stuck) ≡ 0
unfolding ending_at ending_number
ending-number w stuck =
    test w.unsolvable
    (λ v. rw (v, ending_at))
    (λ v. test (idle w)
    (λ i. rw (v, ending_at, i))
    (λ i. test stuck (λ s. rw (v, ending_at, i, s)) (λ s. rw (v, ending_at, i, s))))

run-number : (k : ℕ) (w : Network) → in_shape w ≡ true → ending_number (run k w).ending ≡ 0
unfolding finish
run-number k w s = go (run_ends (λ made rounds x. Unit {0}) (λ made rounds x v i n u. tt) k w s tt)
  where
    go : {x : Ran} → Ends (λ made rounds y. Unit {0}) (allowed k) x → ending_number x.ending ≡ 0
    go (rests made rounds y u t l e) = rw e (ending-number y false)
    go (used made rounds y u l e) = rw e (ending-number y false)
    go (stops made rounds y u v i s l e) = rw e (ending-number _ true)

run-told : (k : ℕ) (w : Network) → (run k w).made ≡ rounds_of (came_to_call (Run k) w)
unfolding run came_to_call unless_refused ending_number rejection_number rounds_of
run-told k w =
    test (in_shape w)
    (λ s. rw (run-number k w s))
    (λ s. rw (s, run))

-- ---- one call

delivery-told : (k : ℕ) (c : Came) → rounds_of c ≡ 0 → rounds_of (unless_refused k c) ≡ 0
unfolding unless_refused rounds_of
delivery-told k c e = test (eqb k 0) (λ t. rw t e) (λ t. rw t)

call-told : (c : Call) (w : Network) → made_by c w ≡ rounds_of (came_to_call c w)
unfolding made_by came_to_call rounds_of
call-told (Deliver i j) w = sym (delivery-told (answer_number (deliver w i j).answer) _ refl)
call-told (Run k) w = run-told k w

pick-told : (served : Option Line) (number : ℕ) (w : Network) → made_by_all (delivery_of served) w ≡ rounds_of (came_to_pick served number)
unfolding delivery_of made_by_all made_by came_to_pick rounds_of
pick-told None number w = refl
pick-told (Some l) number w = refl

step-told : (d : Dispatcher) (s : Step) → made_by_all (calls_by s d) d.network ≡ rounds_of (came_to s d)
unfolding calls_by made_by_all came_to
step-told d (Called c) = add-zero (made_by c d.network) ∙ call-told c d.network
step-told d (Picked wish) = pick-told (pick d wish).served _ d.network

-- ---- a list of calls

made-append : (xs ys : List Call) (w : Network) → made_by_all (xs ++ ys) w ≡ made_by_all xs w + made_by_all ys (left_by_all xs w)
unfolding made_by_all left_by_all
made-append [] ys w = sym (zero-add (made_by_all ys w))
made-append (x ∷ xs) ys w =
    ap (λ (k : ℕ). made_by x w + k) (made-append xs ys (left_by x w))
    ∙ sym (add_assoc (made_by x w) (made_by_all xs (left_by x w)) (made_by_all ys (left_by_all xs (left_by x w))))

step-comes : (d : Dispatcher) (s : Step) → (left_by_step s d).network ≡ left_by_all (calls_by s d) d.network
unfolding left_by_steps calls_in
step-comes d s = picks-are-calls d (s ∷ []) ∙ ap (λ (cs : List Call). left_by_all cs d.network) (append-nil (calls_by s d))

pub all-told : (d : Dispatcher) (steps : List Step) → made_by_all (calls_in steps d) d.network ≡ rounds_in (came_by_all steps d)
unfolding calls_in made_by_all came_by_all rounds_in
all-told d [] = refl
all-told d (s ∷ ss) =
    made-append (calls_by s d) (calls_in ss (left_by_step s d)) d.network
    ∙ ap₂ (λ (a b : ℕ). a + b) (step-told d s)
    (ap (made_by_all (calls_in ss (left_by_step s d))) (sym (step-comes d s)) ∙ all-told (left_by_step s d) ss)
