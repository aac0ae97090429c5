-- Choosing, with backing up, from a record with sound nogoods. No verdict: the record is good, and what is sent is as the facts want it. A
-- verdict: no assignment counts. One induction over `settle`; each time one agent more is unknown, so its bound is never used up.
use Rattle.std.proofs.Common.{None, Some, ◌≡◌, refl, sym, ap, ◌∙◌, ◌≢◌, ◌⊎◌, inl, inr, ⊎_elim, List, [], ◌∷◌, true, false, ℕ, zero, suc, ◌≤◌, ◌<◌, arith, eqb, eqb-true, eq-eqb}
use mathlib.Core.Bool.{false≢true}
use borrow.Author.Tests.{eqb-false}
use Rattle.model_base.specs.Finite.{at, highest, is_some}
use Rattle.model_sheet.specs.Problem.{max_agents}
use Rattle.model_base.proofs.Tests.{test, opt, eq_test}
use Rattle.model_base.proofs.Search.{highest-some, highest-none, highest-max, at_same, at_other}
use Rattle.model_base.proofs.Lists.{All, All-map, Any}
use Rattle.model_agent.specs.Message.{Assignment, known, Message, Info, Back, AddLink, sent_to}
use Rattle.model_agent.specs.Agent.{Self, Bans, Nogoods, Agent, Step, above}
use Rattle.model_agent.specs.Choosing.{Choice, choice, no_refuser, tells, chosen, took, union, failed, refusing, forget, after, settle, check_view}
use Rattle.model_agent.specs.Sorts.{IsBack, Not, Refuses, after_one, seen}
use Rattle.model_agent.proofs.Assignments.{unknown, unknown-zero, to-above, from-above, known_to, known_to-le, known_to-less}
use Rattle.theorems_agent.specs.Facts.{Setting, Good, busy_view, Backs, Sends}
use Rattle.theorems_agent.proofs.Posts.{gets-all, gets-one, gets_none, infos-get}
use Rattle.theorems_agent.proofs.Telling.{MayHear, told-may, left_out}
use Rattle.theorems_agent.proofs.Walk.{conflicts-false, Walked, walked}
use Rattle.theorems_agent.proofs.Reasons.{Sound, NoneFree, walked-sound, union-view, no_value, back-implied, forget-sound}

-- a record that may choose
pub record Ready (S : Assignment → Type 0) (s : Self) (a : Agent) : Type 0 where
  pub sound : Sound S s a.view a.nogoods
  pub viewed : (k : ℕ) → known (a.view k) ≡ true → a.listens k ≡ true
  pub upward : (k : ℕ) → a.listens k ≡ true → (1 ≤ k) × (k < s.number)

-- what may be sent to agent y, while a refusal of `refuser` is worked
abbrev pub Posted : (Assignment → Type 0) → ℕ → Agent → ℕ → Message → Type 0
Posted S refuser a y (Info v) = MayHear a refuser y
Posted S refuser a y (Back lhs v) = (a.listens y ≡ true) × Backs S a.view y lhs v
Posted S refuser a y AddLink = Unit {0}

-- agent y is told the value taken; or, where that is the last one taken and y is not the refuser, told nothing
abbrev pub Learns : ℕ → Agent → Step → ℕ → Type 0
Learns refuser a t y =
    ((v : ℕ) → seen v (sent_to y t.sent) ≡ t.agent.value)
    ⊎ ((t.agent.value ≡ a.last) × ((v : ℕ) → seen v (sent_to y t.sent) ≡ v) × (y ≢ refuser))

-- a value was taken
pub record ValueTaken (S : Assignment → Type 0) (s : Self) (bans : Bans) (refuser : ℕ) (a : Agent) (t : Step) : Type 0 where
  pub good : Good S s bans t.agent
  pub view : (x : ℕ)
      → (t.agent.view x ≡ a.view x) ⊎ ((t.agent.view x ≡ 0) × Any (Refuses (a.view x)) (sent_to x t.sent))
  pub sent : (y : ℕ) → All (Posted S refuser a y) (sent_to y t.sent)
  pub tells : (y : ℕ) → s.number < y → y ≤ max_agents → a.informs y ≡ true → Learns refuser a t y
  pub grows : ((y : ℕ) → All (Not IsBack) (sent_to y t.sent))
      → (v : ℕ) → is_some (a.nogoods v) ≡ true → is_some (t.agent.nogoods v) ≡ true

pub record ChoiceMade (S : Assignment → Type 0) (s : Self) (bans : Bans) (refuser : ℕ) (a : Agent) (t : Step) : Type 0 where
  pub taken : t.unsolvable ≡ false → ValueTaken S s bans refuser a t
  pub hopeless : t.unsolvable ≡ true → (σ : Assignment) → S σ → ⊥

-- the join of all left sides
abbrev whole : Self → Nogoods → Assignment
whole s nogoods = union s.domain nogoods

module _ (S : Assignment → Type 0) (s : Self) (bans : Bans) (problem : Setting S s bans) (refuser : ℕ) where
  -- ---- a value is taken

  takes : (a : Agent) → Ready S s a → (v : ℕ) (c : Choice) → Walked s bans a.view s.domain 1 a.nogoods c → c.value ≡ Some v
      → ValueTaken S s bans refuser a (took s refuser a v c.nogoods)
  unfolding took chosen seen after_one
  takes a R v c W e =
      let (low, high, fresh, free) = W.taken v e in
      let N = walked-sound S s bans problem a.view s.domain 1 a.nogoods c R.sound W in
      record {
        good = record {
          low = low;
          high = omega arith;
          kept = refl;
          free = conflicts-false s bans a.view problem.upward v free;
          fresh = fresh;
          agree = N.agree;
          implied = N.implied;
          viewed = R.viewed;
          upward = R.upward;
        };
        view = λ x. inl refl;
        sent = λ y. gets-all (infos-get s a refuser v y) (Posted S refuser a y) (λ (l, _) i. told-may s a refuser v y l i);
        tells = λ y l h i. test (tells s a refuser v y)
            (λ e. inl (λ u. rw (gets-one (infos-get s a refuser v y) (l, h) e)))
            (λ e.
            let (old, other) = left_out s a refuser v y i e in
            inr (old, (λ u. rw (gets_none (infos-get s a refuser v y) (λ _. e))), other));
        grows = λ _. W.grows;
      }

  -- ---- no value is free

  module _ (a : Agent) (R : Ready S s a) (nogoods : Nogoods) (N : Sound S s a.view nogoods) (full : NoneFree s nogoods) where
    whole-view : (x : ℕ) → known (whole s nogoods x) ≡ true → whole s nogoods x ≡ a.view x
    whole-view x = union-view s.domain nogoods a.view x (λ v lhs _ _ e. N.agree v lhs e x)

    whole-range : (x : ℕ) → known (whole s nogoods x) ≡ true → (1 ≤ x) × (x ≤ above s)
    whole-range x n = let (l, h) = R.upward x (R.viewed x (rw (whole-view x n) at n)) in (l, to-above s x h)

    fails : highest (above s) (λ k. known (whole s nogoods k)) ≡ None → ChoiceMade S s bans refuser a (failed a nogoods)
    unfolding failed
    fails e =
        record {
          taken = λ q. absurd (false≢true (sym q));
          hopeless = λ _ σ counts.
              no_value S s bans problem a.view nogoods N full σ counts
              (λ x n.
              let (l, h) = whole-range x n in
              absurd (false≢true (sym (highest-none (above s) (λ k. known (whole s nogoods k)) e x l h) ∙ n)));
        }

    module _ (k : ℕ) (top : highest (above s) (λ k. known (whole s nogoods k)) ≡ Some k) where
      top-known : known (whole s nogoods k) ≡ true
      top-known = (highest-some (above s) (λ k. known (whole s nogoods k)) k top).0

      top-viewed : known (a.view k) ≡ true
      top-viewed = rw (whole-view k top-known) at top-known

      back : Backs S a.view k (at (whole s nogoods) k 0) (whole s nogoods k)
      back =
          record {
            of-view = whole-view k top-known;
            real = top-known;
            inside = λ x. eq_test x k
                (λ u. inl (rw u (at_same (whole s nogoods) k 0)))
                (λ u.
                let o = at_other (whole s nogoods) k 0 x u in
                test (known (whole s nogoods x)) (λ n. inr (o ∙ whole-view x n)) (λ n. inl (o ∙ unknown-zero _ n)));
            below = λ x n. eq_test x k
                (λ u. unknown (rw (u, at_same) at n))
                (λ u.
                let n' : known (whole s nogoods x) ≡ true = rw (at_other (whole s nogoods) k 0 x u) at n in
                let h = highest-max (above s) (λ k. known (whole s nogoods k)) k top x (whole-range x n').1 n' in
                omega arith);
            implied = back-implied S s bans problem a.view nogoods N full k;
          }

      forget-ready : Ready S s (forget k a nogoods)
      unfolding forget
      forget-ready =
          record {
            sound = forget-sound S s a.view nogoods k N;
            viewed = λ x n. eq_test x k
                (λ u. unknown (rw (u, at_same) at n))
                (λ u. R.viewed x (rw (at_other a.view k 0 x u) at n));
            upward = R.upward;
          }

      -- what may be sent with agent k unknown may be sent
      forgotten : (y : ℕ) (m : Message) → Posted S refuser (forget k a nogoods) y m → Posted S refuser a y m
      unfolding forget
      forgotten y (Info v) h = h
      forgotten y (Back lhs v) (l, B) = (
        l,
        record {
          of-view = eq_test y k
              (λ u. unknown (rw (B.of-view, u, at_same) at B.real))
              (λ u. B.of-view ∙ at_other a.view k 0 y u);
          real = B.real;
          inside = λ x. eq_test x k
              (λ u. inl (⊎_elim (λ e. e) (λ e. e ∙ rw u (at_same a.view k 0)) (B.inside x)))
              (λ u. ⊎_elim (λ e. inl e) (λ e. inr (e ∙ at_other a.view k 0 x u)) (B.inside x));
          below = B.below;
          implied = B.implied;
        },
      )
      forgotten y AddLink h = h

      backs-up : (t : Step) → ChoiceMade S s bans refuser (forget k a nogoods) t
          → ChoiceMade S s bans refuser a (after (refusing k (whole s nogoods) ∷ []) t)
      unfolding forget after refusing sent_to seen after_one
      backs-up t O =
          record {
            taken = λ q.
                let T = O.taken q in
                let later : (y : ℕ) → All (Posted S refuser a y) (sent_to y t.sent) =
                λ y. All-map _ _ (forgotten y) (sent_to y t.sent) (T.sent y) in
                record {
                  good = T.good;
                  view = λ x. test (eqb x k)
                      (λ u.
                      let e = eqb-true x k u in
                      inr (gone x e (T.view x), rw (u, sent_to) (inl (whole-view k top-known ∙ ap a.view (sym e)))))
                      (λ u. rw (u, sent_to) (rw (at_other a.view k 0 x (eqb-false x k u)) at (T.view x)));
                  sent = λ y. test (eqb y k)
                      (λ u. rw (u, sent_to) (rw (eqb-true y k u) (R.viewed k top-viewed, back), later y))
                      (λ u. rw (u, sent_to) (later y));
                  tells = λ y l h i. test (eqb y k) (λ u. rw (u, sent_to) (T.tells y l h i)) (λ u. rw (u, sent_to) (T.tells y l h i));
                  grows = λ n. absurd ((rw (eq-eqb k k refl, sent_to) at (n k)).0 tt);
                };
            hopeless = O.hopeless;
          }
        where
          gone : {X : Type 0} {u : ℕ} (x : ℕ) → x ≡ k → (u ≡ at a.view k 0 x) ⊎ ((u ≡ 0) × X) → u ≡ 0
          gone x e (inl h) = h ∙ rw e (at_same a.view k 0)
          gone x e (inr h) = h.0

  -- ---- the induction

  settles : (times : ℕ) (a : Agent) → known_to (above s) a.view < times → Ready S s a
      → ChoiceMade S s bans refuser a (settle times s bans refuser a)
  unfolding settle choice took forget
  settles zero a fuel R = absurd (omega arith)
  settles (suc times) a fuel R =
      let c = choice s bans a in
      let W : Walked s bans a.view s.domain 1 a.nogoods c = walked s bans a.view s.domain 1 a.nogoods in
      let N = walked-sound S s bans problem a.view s.domain 1 a.nogoods c R.sound W in
      opt c.value
      (λ e.
      let full : NoneFree s c.nogoods = λ v l h. W.full e v l (omega arith) in
      opt (highest (above s) (λ k. known (whole s c.nogoods k)))
      (λ none-top. rw (e, none-top, settle) (fails a R c.nogoods N full none-top))
      (λ k top. rw (e, top, settle)
      (let (_, l, h) = highest-some (above s) (λ k. known (whole s c.nogoods k)) k top in
      let less = known_to-less (above s) a.view k l h (top-viewed a R c.nogoods N full k top) in
      backs-up a R c.nogoods N full k top (settle times s bans refuser (forget k a c.nogoods))
      (settles times (forget k a c.nogoods) (omega arith) (forget-ready a R c.nogoods N full k top)))))
      (λ v e. rw (e, settle) record { taken = λ _. takes a R v c W e; hopeless = λ q. absurd (false≢true q) })

  pub checks : (a : Agent) → Ready S s a → ChoiceMade S s bans refuser a (check_view s bans refuser a)
  unfolding check_view
  checks a R = settles s.number a (from-above s _ problem.low (known_to-le (above s) a.view)) R

-- ---- as the facts have it: b is the agent with the message's own update

pub taken-sends : (S : Assignment → Type 0) (refuser : ℕ) (a b : Agent) (from : ℕ) (m : Message) (t : Step)
    → ((y : ℕ) → y ≡ refuser → y ≢ no_refuser → (y ≡ from) × IsBack m)
    → ((x : ℕ) → b.view x ≡ busy_view a from m x) → b.informs ≡ a.informs → t.agent.listens ≡ b.listens
    → (y : ℕ) (l : List Message) → All (Posted S refuser b y) l → All (Sends S a from m t y) l
taken-sends S refuser a b from m t worked view informs listens y = All-map (Posted S refuser b y) (Sends S a from m t y) sends
  where
    sends : (q : Message) → Posted S refuser b y q → Sends S a from m t y q
    sends (Info v) h = ⊎_elim (λ i. inl (rw informs at i)) (λ (e, n). inr (worked y e n)) h
    sends (Back lhs v) (l, B) = (
      rw listens l,
      record {
        of-view = B.of-view ∙ view y;
        real = B.real;
        inside = λ x. ⊎_elim (λ e. inl e) (λ e. inr (e ∙ view x)) (B.inside x);
        below = B.below;
        implied = B.implied;
      },
    )
    sends AddLink h = tt
