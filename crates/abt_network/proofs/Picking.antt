-- A pick on a network in shape is a delivery on the line that it served, and is never refused with 5.
-- By the claim that a pick is such a delivery, or changes nothing.
use Rattle.std.proofs.Common.{◌≡◌, refl, sym, ◌∙◌, Some, None, Option, Result, Ok, Err, IfOk, true, arith}
use Rattle.support_rejection.specs.declared.Rejection.{Rejection}
use Rattle.model_base.proofs.Tests.{test}
use Rattle.model_network.specs.Network.{Network}
use Rattle.model_network.specs.Shape.{in_shape}
use Rattle.model_network.specs.Delivery.{rejection_number, answer_number}
use Rattle.model_network.specs.Run.{Line as Line', idle}
use Rattle.theorems_network.specs.Calls.{Deliver}
use Rattle.theorems_network.proofs.Theorems.{deliver-keeps}
use Rattle.model_dispatch.specs.Dispatch.{turn, first_of, Dispatcher, meets, refusing, serving, evenly, chosen, pick}
use Rattle.model_dispatch.proofs.Theorems.{picks-deliver}
use Rattle.abt_dispatch.specs.declared.Line.{Line}
use Rattle.abt_dispatch.specs.declared.Dispatcher.{Dispatcher as State}
use Rattle.abt_dispatch.specs.Abstract.{line_of, answered_number as line_number, served_of}
use Rattle.abt_network.specs.declared.picks.Dispatch.{Dispatch}
use Rattle.abt_network.specs.Numbers.{answered_number}
use Rattle.abt_network.specs.Histories.{GoesOn, Stands}
use Rattle.abt_network.proofs.Following.{delivered, stands, stands-next}

-- the count and the place alone
abbrev pub place_of : State → Dispatch
place_of x = record { picks = x.picks; place = x.place }

pub answered-is : (r : Result Line Rejection) → answered_number r ≡ line_number r
answered-is (Ok l) = refl
answered-is (Err e) = refl

module _ (d : Dispatcher) (wish : Line') where
  kept : (o : Option Line') → (pick d wish).served ≡ o → in_shape d.network ≡ true → in_shape (pick d wish).state.network ≡ true
  kept None e s = rw ((picks-deliver d wish).refused e) s
  kept (Some l) e s = rw ((picks-deliver d wish).served l e).0 (deliver-keeps d.network l.from l.to s)

  pub pick-keeps : in_shape d.network ≡ true → in_shape (pick d wish).state.network ≡ true
  pick-keeps s = kept (pick d wish).served refl s

  told : (o : Option Line') → (pick d wish).served ≡ o → Stands d.network (pick d wish).state.network
  told None e = rw ((picks-deliver d wish).refused e) (stands d.network)
  told (Some l) e =
      stands-next (Deliver l.from l.to) d.network (pick d wish).state.network
      (delivered l.from l.to d.network (pick d wish).state.network ((picks-deliver d wish).served l e).0)

  pub pick-stands : (next : Network) → next ≡ (pick d wish).state.network → Stands d.network next
  pick-stands next e = rw e (told (pick d wish).served refl)

  pub pick-goes-on : (next : Network) → next ≡ (pick d wish).state.network → (r : Result Line Rejection) → served_of r ≡ (pick d wish).served
      → IfOk r (λ l. GoesOn (Deliver l.from l.to) d.network next)
  pick-goes-on next e (Ok l) q = delivered l.from l.to d.network next (e ∙ ((picks-deliver d wish).served (line_of l) (sym q)).0)
  pick-goes-on next e (Err r) q = tt

  -- ---- the number

  evenly-number : (o : Option Line') → answer_number (evenly d o).answer ≡ 5 → ⊥
  unfolding evenly serving refusing answer_number rejection_number
  evenly-number (Some l) = λ z. omega arith
  evenly-number None = test (idle d.network) (λ i. rw (i, evenly) (λ z. omega arith)) (λ i. rw (i, evenly) (λ z. omega arith))

  chosen-number : answer_number (chosen d wish).answer ≡ 5 → ⊥
  unfolding chosen serving answer_number
  chosen-number =
      test (meets d wish)
      (λ m. rw (m, chosen) (λ z. omega arith))
      (λ m. rw (m, chosen) (evenly-number (first_of d.network (turn d.network d.place))))

  pub pick-number : in_shape d.network ≡ true → answer_number (pick d wish).answer ≡ 5 → ⊥
  unfolding pick refusing answer_number rejection_number
  pick-number s =
      rw (s, pick) (test d.network.unsolvable (λ v. rw v (λ z. omega arith)) (λ v. rw v chosen-number))
