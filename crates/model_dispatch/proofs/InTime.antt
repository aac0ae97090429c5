-- A line that stays deliverable is served in time. A pick that does not serve it brings it nearer: one that goes round moves the place to a line
-- that stands before it in the turn, and one that meets a wish leaves the place, and the next one goes round.
use Rattle.std.proofs.Common.{None, Option, Some, ◌≡◌, sym, ap, ◌∙◌, ◌⊎◌, inl, inr, ⊎_elim, true, false, cond, List, [], ◌∷◌, ◌++◌, append_assoc, ℕ, ◌+◌, ◌*◌, ◌%◌, ◌≤◌, ◌<◌, arith, eqb, ltb, length, length-append, eqb-true, ne_eqb, ltb-true}
use mathlib.Core.Bool.{and-false, false≢true}
use Rattle.model_base.proofs.Tests.{test, both, no-some}
use Rattle.model_base.specs.Lists.{Any}
use Rattle.model_agent.specs.Traffic.{top, raised}
use Rattle.model_agent.proofs.Traffic.{Raised, exact, full, raises}
use Rattle.model_network.specs.Run.{Line, is_line}
use Rattle.model_dispatch.specs.Dispatch.{Dispatcher, turn, deliverable, first_of, is_odd, Pick, serving, pick}
use Rattle.model_dispatch.specs.Claims.{picks_by, Serves, StaysDeliverable}
use Rattle.model_dispatch.proofs.Turns.{this-itself, this-same}
use Rattle.model_dispatch.proofs.Deliveries.{problem-stays, passed}
use Rattle.model_dispatch.proofs.First.{first-can, Found, itself, earlier, found}
use Rattle.model_dispatch.proofs.Picks.{Picked, refused, wished, in_turn, picked}
use Rattle.model_dispatch.proofs.NetworkTurns.{turn-behind, turn-stays}

-- ---- odd and even

-- behind an odd pick stands an even one
even-next : (c : ℕ) → is_odd c ≡ true → is_odd (raised c 1) ≡ false
unfolding is_odd
even-next c o = go (raises c 1)
  where
    b : (ltb c top ≡ true) × (eqb (c % 2) 0 ≡ true)
    b = both (ltb c top) (eqb (c % 2) 0) o

    go : Raised c 1 → is_odd (raised c 1) ≡ false
    go (exact l e) = let z = eqb-true (c % 2) 0 b.1 in rw (e, ne_eqb ((c + 1) % 2) 0 (omega arith), and-false)
    go (full l e) = absurd (omega (arith, ltb-true c top b.0))

-- so many picks serve a line that so many others stand before
pub enough : ℕ → ℕ → ℕ
enough picks others = cond (is_odd picks) 2 1 + 2 * others

enough-least : (picks others : ℕ) → 1 + 2 * others ≤ enough picks others
unfolding enough
enough-least picks others = test (is_odd picks) (λ e. rw e (omega arith)) (λ e. rw e (omega arith))

pub enough-most : (picks others : ℕ) → enough picks others ≤ 2 + 2 * others
unfolding enough
enough-most picks others = test (is_odd picks) (λ e. rw e (omega arith)) (λ e. rw e (omega arith))

-- ---- nearer

record Nearer (d e : Dispatcher) (l : Line) (before : List Line) : Type 0 where
  ahead : List Line
  after : List Line
  whole : turn e.network e.place ≡ ahead ++ (l ∷ after)
  less : enough e.picks (length ahead) < enough d.picks (length before)

nearer : (d : Dispatcher) (wish l : Line) (before after : List Line) → deliverable d.network l ≡ true
    → turn d.network d.place ≡ before ++ (l ∷ after) → (Serves l (pick d wish) → ⊥) → Nearer d (pick d wish).state l before
unfolding serving enough
nearer d wish l before after h e n = go (picked d wish) (found d.network (turn d.network d.place) before l after e h)
  where
    served : (m place : Line) → pick d wish ≡ serving d m place
        → turn (pick d wish).state.network (pick d wish).state.place ≡ turn d.network place
    served m place q = rw q (turn-stays d.network _ place (problem-stays d.network m.from m.to))

    stuck : first_of d.network (turn d.network d.place) ≡ None → Found d.network (turn d.network d.place) before l → ⊥
    stuck z (itself g) = no-some (sym z ∙ g)
    stuck z (earlier first between m b g) = no-some (sym z ∙ g)

    round : (m : Line) → first_of d.network (turn d.network d.place) ≡ Some m → pick d wish ≡ serving d m m
        → Found d.network (turn d.network d.place) before l → Nearer d (pick d wish).state l before
    round m f q (itself g) = absurd (n (ap (λ (p : Pick). p.served) q ∙ sym f ∙ g))
    round m f q (earlier first between k b g) =
        let z : Some m ≡ Some k = sym f ∙ g in
        let same : m ≡ k = cc in
        record {
          ahead = between;
          after = after ++ (first ++ (k ∷ []));
          whole =
              served m m q
              ∙ rw same (turn-behind d.network d.place first k (between ++ (l ∷ after))
              (passed d.network k (first-can d.network (turn d.network d.place) k g)).numbers
              (e ∙ rw (b, append_assoc first (k ∷ between) (l ∷ after))))
              ∙ append_assoc between (l ∷ after) (first ++ (k ∷ []));
          less =
              omega (
                arith,
                enough-most (pick d wish).state.picks (length between),
                enough-least d.picks (length before),
                ap length b,
                length-append first (k ∷ between),
              );
        }

    go : Picked d wish (pick d wish) → Found d.network (turn d.network d.place) before l → Nearer d (pick d wish).state l before
    go (refused r z q) g = absurd (stuck z g)
    go (wished o c q) g =
        record {
          ahead = before;
          after = after;
          whole = served wish d.place q ∙ e;
          less = rw (q, even-next d.picks o, o) (omega arith);
        }
    go (in_turn m f q) g = round m f q g

-- ---- in time

is-served : (o : Option Line) (l : Line) → (o ≡ Some l) ⊎ (o ≡ Some l → ⊥)
is-served None l = inr (λ e. no-some e)
is-served (Some m) l =
    test (is_line m.from m.to l)
    (λ e. inl (rw (this-same m l e)))
    (λ e. inr (λ q. let z : m ≡ l = cc in false≢true (sym e ∙ rw z (this-itself l))))

pub served-soon : (d : Dispatcher) (l : Line) (wishes before after : List Line) → turn d.network d.place ≡ before ++ (l ∷ after)
    → enough d.picks (length before) ≤ length wishes → StaysDeliverable l wishes d → Any (Serves l) (picks_by wishes d)
unfolding picks_by
served-soon d l [] before after e u h = absurd (omega (arith, enough-least d.picks (length before)))
served-soon d l (wish ∷ wishes) before after e u h =
    ⊎_elim
    (λ y. inl y)
    (λ n.
    let c = nearer d wish l before after h.0 e n in
    inr (served-soon (pick d wish).state l wishes c.ahead c.after c.whole (omega (arith, c.less)) (h.1 n)))
    (is-served (pick d wish).served l)
