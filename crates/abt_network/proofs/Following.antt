-- What was reached goes on with each call, and the claims about lists of calls tell of it.
-- A list with one call more leaves what that call leaves of what the list left.
use Rattle.std.proofs.Common.{◌≡◌, refl, sym, ap, ◌∙◌, subst, true, ℕ, List, [], ◌∷◌, ◌++◌}
use Rattle.model_sheet.specs.Problem.{Problem}
use Rattle.model_network.specs.Network.{Network, start, start_sheet}
use Rattle.model_network.specs.Shape.{in_shape}
use Rattle.model_network.specs.Delivery.{deliver}
use Rattle.model_network.specs.Run.{run}
use Rattle.theorems_network.specs.Calls.{Call, Deliver, Run, left_by, left_by_all}
use Rattle.theorems_network.specs.Claims.{slots_of, StandsFor}
use Rattle.theorems_network.proofs.Theorems.{sheet-sound, sheet-complete, sheet-stays-in-shape}
use Rattle.model_dispatch.specs.Dispatch.{Dispatcher, dispatcher}
use Rattle.theorems_dispatch.specs.Steps.{left_by_steps}
use Rattle.theorems_dispatch.specs.Claims.{above}
use Rattle.abt_calls.proofs.Keeping.{reached-first}
use Rattle.abt_network.specs.Histories.{Reached, Begun, GoesOn, Stands}

-- ---- one call more

left-more : (calls : List Call) (c : Call) (w : Network) → left_by_all (calls ++ (c ∷ [])) w ≡ left_by c (left_by_all calls w)
unfolding left_by_all
left-more [] c w = refl
left-more (d ∷ calls) c w = left-more calls c (left_by d w)

goes-on : (c : Call) (w next : Network) → next ≡ left_by c w → GoesOn c w next
goes-on c w next e rule sheet p calls R =
    record { rule_good = R.rule_good; said = R.said; left = e ∙ ap (left_by c) R.left ∙ sym (left-more calls c (start rule p)) }

pub delivered : (i j : ℕ) (w next : Network) → next ≡ (deliver w i j).network → GoesOn (Deliver i j) w next
unfolding left_by
delivered i j w next e = goes-on (Deliver i j) w next e

pub ran : (k : ℕ) (w next : Network) → next ≡ (run k w).network → GoesOn (Run k) w next
unfolding left_by
ran k w next e = goes-on (Run k) w next e

-- ---- the start

pub begun : (rule : ℕ) (sheet : List ℕ) (w : Network) → (start_sheet rule sheet).number ≡ 0 → w ≡ (start_sheet rule sheet).network
    → Begun rule sheet w
unfolding left_by_all left_by_steps above dispatcher
begun rule sheet w z e =
    let F = reached-first rule sheet z in
    (F.0, record { rule_good = F.1.rule; said = F.1.sheet; left = e ∙ sym (ap (λ (d : Dispatcher). d.network) F.1.left) })

-- ---- what is told

pub stays-shaped : (rule : ℕ) (sheet : List ℕ) (p : Problem) (calls : List Call) (w : Network) → Reached rule sheet p calls w → in_shape w ≡ true
stays-shaped rule sheet p calls w R = rw R.left (sheet-stays-in-shape rule R.rule_good sheet p R.said calls)

pub stands : (w : Network) → Stands w w
unfolding slots_of
stands w rule sheet p calls R =
    subst (StandsFor p) (sym R.left)
    (record { rest = sheet-sound rule R.rule_good sheet p R.said calls; unsolvable = sheet-complete rule R.rule_good sheet p R.said calls })

pub stands-next : (c : Call) (w next : Network) → GoesOn c w next → Stands w next
stands-next c w next G rule sheet p calls R = stands next rule sheet p (calls ++ (c ∷ [])) (G rule sheet p calls R)
