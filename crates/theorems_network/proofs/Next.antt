-- From a network with the invariant a tried delivery leaves it as it is, or is a move to a network with the invariant, or ends in a verdict where
-- no assignment obeys all bans.
use Rattle.std.proofs.Common.{◌≡◌, refl, ap, subst, List, ◌∷◌, true, false, ℕ}
use mathlib.Core.Bool.{or-true, or-false, false≢true}
use Rattle.model_base.proofs.Tests.{test}
use Rattle.model_sheet.specs.Problem.{Problem, in_range, Obeys}
use Rattle.model_agent.specs.Message.{Assignment, Message, Info, Back, AddLink}
use Rattle.model_agent.specs.Agent.{Agent}
use Rattle.theorems_agent.specs.Facts.{Handed}
use Rattle.model_network.specs.Network.{Network, self_of, bans_of, with_step, with_channel, step_on, handed}
use Rattle.model_network.specs.Delivery.{Accepted, is_accepted, rejecting, numbers_good, deliver}
use Rattle.model_network.specs.Run.{Line}
use Rattle.theorems_network.specs.Calls.{attempt_of}
use Rattle.theorems_network.proofs.Moves.{Move, Waits, Invariant, Next, stays, moves, stops}
use Rattle.theorems_shape.proofs.Wall.{agent-facts}
use Rattle.theorems_shape.proofs.Outcome.{Outcome, refused, accepted, outcome, numbers}
use Rattle.theorems_shape.proofs.Handing.{handing}
use Rattle.theorems_network.proofs.Setting.{setting}
use Rattle.theorems_network.proofs.Keeps.{keeps}

-- ---- an accepted delivery

to-handed : (rule : ℕ) (p : Problem) (agents : ℕ → Agent) (i j : ℕ) (m : Message) → Waits p agents i j m
    → Handed (Obeys p) (self_of rule p j) (agents j) i m
unfolding self_of
to-handed rule p agents i j (Info v) h = h
to-handed rule p agents i j (Back lhs v) h = (h.2, h.1)
to-handed rule p agents i j AddLink h = tt

-- for the network's own problem, which the invariant says is p
module _ (d : Line) (w : Network) (r : in_range w.problem ≡ true) (I : Invariant w.problem w) (m : Message) (ms : List Message)
    (l : w.channel d.from d.to ≡ m ∷ ms) (g : numbers_good w d.from d.to ≡ true) where
  abbrev i : ℕ
  i = d.from

  abbrev j : ℕ
  j = d.to

  given : Handed (Obeys w.problem) (self_of w.rule w.problem j) (w.agents j) i m
  given = to-handed w.rule w.problem w.agents i j m (rw l at (I.links.waiting i j)).0

  to-move : (step_on w i j m).unsolvable ≡ false → Move w.problem d w (handed w i j m ms)
  unfolding step_on
  to-move v =
      let (li, hi, lj, hj, ne) = numbers w i j g in
      record {
        message = m;
        step = step_on w i j m;
        handing = handing d w m ms ne l;
        facts = agent-facts.runs (Obeys w.problem) (self_of w.rule w.problem j) (bans_of w.problem j) (w.agents j) i m
            (setting w.rule w.problem r j lj hj) given (I.good j lj hj) v;
        from_in = (li, hi);
        to_in = (lj, hj);
      }

  no-solution : (step_on w i j m).unsolvable ≡ true → (σ : Assignment) → Obeys w.problem σ → ⊥
  unfolding step_on
  no-solution v =
      let (li, hi, lj, hj, ne) = numbers w i j g in
      agent-facts.ends (Obeys w.problem) (self_of w.rule w.problem j) (bans_of w.problem j) (w.agents j) i m
      (setting w.rule w.problem r j lj hj) given (I.good j lj hj) v

  delivers : Next w.problem d w (record { network = handed w i j m ms; answer = Accepted; sent = (step_on w i j m).sent })
  unfolding handed with_step with_channel
  delivers =
      test (step_on w i j m).unsolvable
      (λ v. stops refl (rw (v, or-true)) (no-solution v))
      (λ v. let M = to-move v in moves refl M (keeps w.problem r d w _ I M refl refl (rw (v, or-false) I.running)))

pub next : (p : Problem) → in_range p ≡ true → (d : Line) (w : Network) → Invariant p w → Next p d w (attempt_of d w)
unfolding attempt_of rejecting is_accepted
next p r d w I =
    subst (λ (q : Problem). in_range q ≡ true → Invariant q w → Next q d w (attempt_of d w)) I.problem
    (λ r I. go r I (outcome w d.from d.to)) r I
  where
    go : in_range w.problem ≡ true → Invariant w.problem w → Outcome w d.from d.to (deliver w d.from d.to)
        → Next w.problem d w (deliver w d.from d.to)
    go r I (refused x _ e) = stays (rw e refl) (λ q. false≢true (ap is_accepted (rw e at q)))
    go r I (accepted m ms T e) = rw e (delivers d w r I m ms T.head T.numbers)
