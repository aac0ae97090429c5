-- What a pick does: it is refused, where no line in turn can be delivered, or it serves the wish, or the first line in turn. Its tests are read
-- here once; what is delivered, what waits elsewhere and what is counted follow.
use Rattle.std.proofs.Common.{None, Option, Some, ◌≡◌, refl, sym, ap, ◌∙◌, Bool, true, false, List, [], ◌∷◌, ◌++◌, append-nil, ℕ, ◌≤◌}
use mathlib.Core.Bool.{false≢true}
use Rattle.model_base.proofs.Tests.{test, both, no-some}
use Rattle.model_agent.specs.Traffic.{top, raised}
use Rattle.model_agent.proofs.Traffic.{raised-top, raised-twice, raised-none}
use Rattle.model_agent.specs.Message.{Message}
use Rattle.model_network.specs.Shape.{in_shape}
use Rattle.model_network.specs.Delivery.{BadShape, VerdictStands, EmptyChannel, NoRoom, Rejection, deliver}
use Rattle.model_network.specs.Run.{Line, idle}
use Rattle.model_dispatch.specs.Dispatch.{
  Dispatcher,
  turn,
  deliverable,
  first_of,
  is_odd,
  meets,
  Pick,
  refusing,
  serving,
  evenly,
  chosen,
  pick,
}
use Rattle.model_dispatch.specs.Claims.{picks_by, left_by_picks, Serves, deliveries_in, one_if_some, IsDelivery}
use Rattle.model_dispatch.proofs.Deliveries.{others-stay, passed}
use Rattle.model_dispatch.proofs.First.{first-can, first-none}

pub data Picked (d : Dispatcher) (wish : Line) (p : Pick) : Type 0 where
  refused : (r : Rejection) → first_of d.network (turn d.network d.place) ≡ None → p ≡ refusing r d → Picked d wish p
  wished : is_odd d.picks ≡ true → deliverable d.network wish ≡ true → p ≡ serving d wish d.place → Picked d wish p
  in_turn : (l : Line) → first_of d.network (turn d.network d.place) ≡ Some l → p ≡ serving d l l → Picked d wish p

pub picked : (d : Dispatcher) (wish : Line) → Picked d wish (pick d wish)
unfolding pick chosen evenly meets
picked d wish =
    test (in_shape d.network)
    (λ s. rw (s, pick) (running d.network.unsolvable refl))
    (λ s. refused BadShape (nothing (λ l h. false≢true (sym s ∙ (passed d.network l h).shape))) (rw (s, pick)))
  where
    nothing : ((l : Line) → deliverable d.network l ≡ true → ⊥) → first_of d.network (turn d.network d.place) ≡ None
    nothing h = first-none d.network (λ l. test (deliverable d.network l) (λ e. absurd (h l e)) (λ e. e)) (turn d.network d.place)

    even : (o : Option Line) → first_of d.network (turn d.network d.place) ≡ o → Picked d wish (evenly d o)
    even None e =
        test (idle d.network) (λ i. refused EmptyChannel e (rw (i, evenly))) (λ i. refused NoRoom e (rw (i, evenly)))
    even (Some l) e = in_turn l e refl

    running : (b : Bool) → d.network.unsolvable ≡ b → Picked d wish (elim b [ true ↦ refusing VerdictStands d | false ↦ chosen d wish ])
    running true v = refused VerdictStands (nothing (λ l h. false≢true (sym (passed d.network l h).running ∙ v))) refl
    running false v =
        test (meets d wish)
        (λ m. let b = both (is_odd d.picks) (deliverable d.network wish) m in wished b.0 b.1 (rw (m, chosen)))
        (λ m. rw (m, chosen) (even (first_of d.network (turn d.network d.place)) refl))

-- ---- what is delivered

pub delivers : (d : Dispatcher) (wish : Line) → IsDelivery d wish
unfolding serving refusing
delivers d wish = record { served = served (picked d wish); refused = unserved (picked d wish) }
  where
    serves : (m place : Line) → deliverable d.network m ≡ true → pick d wish ≡ serving d m place → (l : Line) → (pick d wish).served ≡ Some l
        → ((pick d wish).state.network ≡ (deliver d.network l.from l.to).network) × (deliverable d.network l ≡ true)
    serves m place h q l e =
        let f : Some m ≡ Some l = sym (ap (λ (p : Pick). p.served) q) ∙ e in
        let z : m ≡ l = cc in
        rw (← z) (ap (λ (p : Pick). p.state.network) q, h)

    served : Picked d wish (pick d wish) → (l : Line) → (pick d wish).served ≡ Some l
        → ((pick d wish).state.network ≡ (deliver d.network l.from l.to).network) × (deliverable d.network l ≡ true)
    served (refused r n q) l e = no-some (sym (ap (λ (p : Pick). p.served) q) ∙ e)
    served (wished o h q) l e = serves wish d.place h q l e
    served (in_turn m f q) l e = serves m m (first-can d.network (turn d.network d.place) m f) q l e

    unserved : Picked d wish (pick d wish) → (pick d wish).served ≡ None → (pick d wish).state ≡ d
    unserved (refused r n q) e = ap (λ (p : Pick). p.state) q
    unserved (wished o h q) e = no-some (sym e ∙ ap (λ (p : Pick). p.served) q)
    unserved (in_turn m f q) e = no-some (sym e ∙ ap (λ (p : Pick). p.served) q)

-- ---- what waits elsewhere

pub heads : (d : Dispatcher) (wish l : Line) → (Serves l (pick d wish) → ⊥)
    → (sent : List Message) × ((pick d wish).state.network.channel l.from l.to ≡ d.network.channel l.from l.to ++ sent)
unfolding serving refusing
heads d wish l n = go (picked d wish)
  where
    serves : (m place : Line) → pick d wish ≡ serving d m place
        → (sent : List Message) × ((pick d wish).state.network.channel l.from l.to ≡ d.network.channel l.from l.to ++ sent)
    serves m place q =
        let s = others-stay d.network m.from m.to l.from l.to
        (λ a b. n (ap (λ (p : Pick). p.served) q ∙ (λ i. Some (record { from = sym a i; to = sym b i })))) in
        (s.0, ap (λ (p : Pick). p.state.network.channel l.from l.to) q ∙ s.1)

    go : Picked d wish (pick d wish)
        → (sent : List Message) × ((pick d wish).state.network.channel l.from l.to ≡ d.network.channel l.from l.to ++ sent)
    go (refused r z q) =
        ([], ap (λ (p : Pick). p.state.network.channel l.from l.to) q ∙ sym (append-nil (d.network.channel l.from l.to)))
    go (wished o c q) = serves wish d.place q
    go (in_turn m f q) = serves m m q

-- ---- what is counted

one_more : (d : Dispatcher) (wish : Line) → d.picks ≤ top → (pick d wish).state.picks ≡ raised d.picks (one_if_some (pick d wish).served)
unfolding serving refusing one_if_some
one_more d wish h = go (picked d wish)
  where
    go : Picked d wish (pick d wish) → (pick d wish).state.picks ≡ raised d.picks (one_if_some (pick d wish).served)
    go (refused r n q) = rw q (sym (raised-none d.picks h))
    go (wished o c q) = rw q
    go (in_turn l f q) = rw q

pub counted : (d : Dispatcher) (wishes : List Line) → d.picks ≤ top
    → (left_by_picks wishes d).picks ≡ raised d.picks (deliveries_in (picks_by wishes d))
unfolding picks_by left_by_picks deliveries_in
counted d [] h = sym (raised-none d.picks h)
counted d (wish ∷ wishes) h =
    let p = pick d wish in
    let o = one_more d wish h in
    counted p.state wishes (rw o (raised-top d.picks (one_if_some p.served)))
    ∙ ap (λ (c : ℕ). raised c (deliveries_in (picks_by wishes p.state))) o
    ∙ raised-twice d.picks (one_if_some p.served) (deliveries_in (picks_by wishes p.state))
