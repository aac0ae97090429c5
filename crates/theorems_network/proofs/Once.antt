-- A link is asked for once, on every network reached from the start, with a verdict or without: every delivery keeps it on each channel (shape_laws,
-- Requests), and at the start no request waits.
use Rattle.std.proofs.Common.{List, [], ◌∷◌, ℕ}
use Rattle.model_base.proofs.Tests.{test}
use Rattle.model_base.proofs.Lists.{All, All-map}
use Rattle.model_sheet.specs.Problem.{Problem, linked}
use Rattle.model_sheet.proofs.Range.{Ranged}
use Rattle.model_agent.specs.Sorts.{IsAddLink, Not}
use Rattle.model_agent.proofs.Messages.{one-put}
use Rattle.model_network.specs.Network.{Network, start}
use Rattle.model_network.specs.Delivery.{rejecting, deliver}
use Rattle.model_network.specs.Run.{Line}
use Rattle.theorems_shape.proofs.Start.{linked-listens, informs-linked, linked-channel, unlinked-channel}
use Rattle.theorems_shape.proofs.Outcome.{Outcome, refused, accepted, outcome, numbers}
use Rattle.theorems_shape.proofs.Handing.{handing}
use Rattle.theorems_shape.proofs.Requests.{Once, once-kept}
use Rattle.theorems_network.specs.Calls.{attempt_of, replay}

module _ (x y : ℕ) where
  try-once : (d : Line) (w : Network) → Once w x y → Once (attempt_of d w).network x y
  unfolding attempt_of rejecting
  try-once d w O = go (outcome w d.from d.to)
    where
      go : Outcome w d.from d.to (deliver w d.from d.to) → Once (deliver w d.from d.to).network x y
      go (refused r _ e) = rw e O
      go (accepted m others T e) = rw e (once-kept (handing d w m others (numbers w d.from d.to T.numbers).4 T.head) x y O)

  pub replay-once : (ds : List Line) (w : Network) → Once w x y → Once (replay ds w) x y
  unfolding replay
  replay-once [] w O = O
  replay-once (d ∷ ds) w O = replay-once ds (attempt_of d w).network (try-once d w O)

  pub start-once : (rule : ℕ) (p : Problem) → Ranged p → Once (start rule p) x y
  unfolding start
  start-once rule p r =
      record {
        informed = λ n. linked-listens rule p r x y (informs-linked rule p r x y n);
        heeded = All-map _ _ (λ m n q. absurd (n q)) ((start rule p).channel y x) none;
        once = one-put [] ((start rule p).channel y x) tt none;
        none = λ _. none;
      }
    where
      none : All (Not IsAddLink) ((start rule p).channel y x)
      none =
          test (linked p y x)
          (λ e. rw (linked-channel rule p r y x e) ((λ q. q), tt))
          (λ e. rw (unlinked-channel rule p r y x e) tt)
