-- The start, agent by agent and channel by channel: exactly the linked pairs listen and inform, nothing is known, and for each linked pair one
-- Info with the lower agent's value waits.
use Rattle.std.proofs.Common.{◌≡◌, [], ◌∷◌, true, false, not, ℕ, ◌≤◌, ◌<◌, arith}
use mathlib.Core.Bool.{false≢true}
use Rattle.model_base.specs.Finite.{within}
use Rattle.model_base.proofs.Tests.{test, within-true, to-within}
use Rattle.model_base.proofs.Search.{to-all_to}
use Rattle.model_sheet.specs.Problem.{Problem, linked}
use Rattle.model_sheet.proofs.Range.{Ranged, linked-inside}
use Rattle.model_agent.specs.Message.{Info, sent_to}
use Rattle.model_agent.specs.Traffic.{no_counts}
use Rattle.model_agent.specs.Agent.{unused_agent}
use Rattle.theorems_agent.specs.Facts.{Begun, Counted}
use Rattle.model_network.specs.Network.{self_of, bans_of, begun, start_agent, start_channel, start}
use Rattle.theorems_shape.proofs.Wall.{agent-facts}

module _ (rule : ℕ) (p : Problem) (r : Ranged p) where
  pub begins : (i : ℕ) → 1 ≤ i → i ≤ p.count → Begun (self_of rule p i) (λ k. linked p k i) (λ k. linked p i k) (begun rule p i)
  unfolding begun self_of
  begins i l h = agent-facts.begins (self_of rule p i) (bans_of p i) (λ k. linked p k i) (λ k. linked p i k) l (r.domained i l h).0

  pub starts : (i : ℕ) → Counted no_counts [] (begun rule p i)
  unfolding begun
  starts i = agent-facts.starts (self_of rule p i) (bans_of p i) (λ k. linked p k i) (λ k. linked p i k)

  pub start-running : (start rule p).unsolvable ≡ false
  unfolding start
  start-running = rw (to-all_to p.count (λ i. not (begun rule p i).unsolvable) (λ i l h. rw (begins i l h).running))

  -- ---- an agent of the problem has begun, one beyond it is unused

  pub agent-in : (i : ℕ) → 1 ≤ i → i ≤ p.count → start_agent rule p i ≡ (begun rule p i).agent
  unfolding start_agent
  agent-in i l h = rw (to-within p.count i l h, start_agent)

  pub agent-beyond : (i : ℕ) → p.count < i → start_agent rule p i ≡ unused_agent
  unfolding start_agent
  agent-beyond i l = test (within p.count i) (λ e. absurd (omega (arith, (within-true _ _ e).1))) (λ e. rw (e, start_agent))

  pub channel-in : (i j : ℕ) → 1 ≤ i → i ≤ p.count → start_channel rule p i j ≡ sent_to j (begun rule p i).sent
  unfolding start_channel
  channel-in i j l h = rw (to-within p.count i l h, start_channel)

  -- ---- exactly the linked pairs listen and inform

  pub linked-listens : (x y : ℕ) → linked p x y ≡ true → (start_agent rule p y).listens x ≡ true
  linked-listens x y e =
      let (l, h, n) = linked-inside p r x y e in
      rw (agent-in y (omega arith) n, (begins y (omega arith) n).listened) e

  pub linked-informs : (x y : ℕ) → linked p x y ≡ true → (start_agent rule p x).informs y ≡ true
  linked-informs x y e =
      let (l, h, n) = linked-inside p r x y e in
      rw (agent-in x l (omega arith), (begins x l (omega arith)).informed) e

  pub listens-linked : (x y : ℕ) → (start_agent rule p y).listens x ≡ true → linked p x y ≡ true
  unfolding start_agent unused_agent
  listens-linked x y e =
      test (within p.count y)
      (λ u. let (l, h) = within-true p.count y u in rw (agent-in y l h, (begins y l h).listened) at e)
      (λ u. absurd (false≢true (rw (u, start_agent) at e)))

  pub informs-linked : (x y : ℕ) → (start_agent rule p x).informs y ≡ true → linked p x y ≡ true
  unfolding start_agent unused_agent
  informs-linked x y e =
      test (within p.count x)
      (λ u. let (l, h) = within-true p.count x u in rw (agent-in x l h, (begins x l h).informed) at e)
      (λ u. absurd (false≢true (rw (u, start_agent) at e)))

  -- ---- what waits

  pub linked-channel : (x y : ℕ) → linked p x y ≡ true → start_channel rule p x y ≡ Info (start_agent rule p x).value ∷ []
  unfolding self_of
  linked-channel x y e =
      let (l, h, n) = linked-inside p r x y e in
      let most = r.high in
      rw (channel-in x y l (omega arith), agent-in x l (omega arith)) ((begins x l (omega arith)).tells y h (omega arith) e)

  pub unlinked-channel : (x y : ℕ) → linked p x y ≡ false → start_channel rule p x y ≡ []
  unfolding start_channel
  unlinked-channel x y e =
      test (within p.count x)
      (λ u. let (l, h) = within-true p.count x u in rw (channel-in x y l h) ((begins x l h).silent y e))
      (λ u. rw (u, start_channel))
