-- What a try does to one agent: nothing is handed to it and it sends nothing, or it takes the message at the head of the line, makes its step and
-- sends what that sends. The network is in shape then, and the numbers are good.
use Rattle.std.proofs.Common.{◌≡◌, ◌∙◌, true, false, ◌&&◌, [], ◌∷◌, ℕ, eqb, eq-eqb, ne_eqb}
use Rattle.model_base.proofs.Tests.{test}
use Rattle.model_agent.specs.Message.{Message}
use Rattle.model_network.specs.Network.{Network, step_on, handed}
use Rattle.model_network.specs.Shape.{in_shape}
use Rattle.model_network.specs.Delivery.{is_accepted, rejecting, numbers_good, deliver}
use Rattle.model_network.specs.Run.{Line}
use Rattle.theorems_shape.proofs.Outcome.{Outcome, refused, accepted, outcome, numbers}
use Rattle.theorems_shape.proofs.Handing.{OnAgent, mine, other, on-agent, handing}
use Rattle.theorems_network.specs.Calls.{attempt_of}
use Rattle.theorems_network.specs.Deeds.{head_from, handed_now, posts_now}

module _ (j : ℕ) (l : Line) (w : Network) where
  pub hands_none : eqb j l.to && is_accepted (attempt_of l w).answer ≡ false → handed_now j l w ≡ []
  unfolding handed_now
  hands_none b = rw (b, handed_now)

  pub hands-head : eqb j l.to && is_accepted (attempt_of l w).answer ≡ true
      → handed_now j l w ≡ head_from l.from (w.channel l.from l.to)
  unfolding handed_now
  hands-head b = rw (b, handed_now)

pub data Turn (j : ℕ) (l : Line) (w : Network) : Type 0 where
  passed : handed_now j l w ≡ [] → posts_now j l w ≡ [] → (attempt_of l w).network.agents j ≡ w.agents j → Turn j l w
  acted : (m : Message) → in_shape w ≡ true → numbers_good w l.from j ≡ true
      → handed_now j l w ≡ record { from = l.from; message = m } ∷ []
      → posts_now j l w ≡ (step_on w l.from j m).sent
      → (attempt_of l w).network.agents j ≡ (step_on w l.from j m).agent → Turn j l w

pub turn : (j : ℕ) (l : Line) (w : Network) → Turn j l w
unfolding posts_now attempt_of rejecting is_accepted head_from
turn j l w = go (outcome w l.from l.to)
  where
    go : Outcome w l.from l.to (deliver w l.from l.to) → Turn j l w
    go (refused r _ e) =
        test (eqb j l.to)
        (λ t. passed (hands_none j l w (rw (t, e))) (rw (t, posts_now, e)) (rw e))
        (λ t. passed (hands_none j l w (rw t)) (rw (t, posts_now)) (rw e))
    go (accepted m others T e) =
        on (on-agent (handing l w m others (numbers w l.from l.to T.numbers).4 T.head) j)
      where
        on : OnAgent l (step_on w l.from l.to m) w (handed w l.from l.to m others) j → Turn j l w
        on (mine q h) =
            acted m T.shape (rw q T.numbers)
            (hands-head j l w (rw (eq-eqb j l.to q, e)) ∙ rw T.head)
            (rw (eq-eqb j l.to q, posts_now, e, q)) (rw (e, h, q))
        on (other q h) = passed (hands_none j l w (rw (ne_eqb j l.to q))) (rw (ne_eqb j l.to q, posts_now)) (rw (e, h))
