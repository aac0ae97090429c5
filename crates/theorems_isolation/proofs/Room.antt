-- On a network in shape, room for a delivery is room on the receiver's own lines: every other line keeps what it held, or loses its head.
use Rattle.std.proofs.Common.{ℕ, ◌+◌, ◌-◌, ◌≤◌, ◌≡◌, refl, sym, ◌≢◌, true, ◌&&◌, List, ◌∷◌, arith, length, length-append, leb, eq-eqb, ne_eqb, leb-true, le-leb}
use Rattle.model_base.specs.Finite.{at, all_to, every}
use Rattle.model_base.proofs.Tests.{eq_test, both}
use Rattle.model_base.proofs.Search.{at_other, at-cases, all_to-at, to-all_to}
use Rattle.model_base.proofs.Peeling.{same_test}
use Rattle.model_sheet.specs.Problem.{max_agents, in_range}
use Rattle.model_agent.specs.Message.{Message, sent_to}
use Rattle.model_network.specs.Network.{Network, is_rule, posted, with_step, with_channel, step_on, handed}
use Rattle.model_network.specs.Shape.{capacity, agent_in_shape, message_fits, has_room, one_request, channel_in_shape, in_shape}
use Rattle.model_network.specs.Delivery.{fits}
use Rattle.theorems_isolation.specs.Tenants.{room_on}

-- ---- the shape, line by line

module _ (w : Network) (shape : in_shape w ≡ true) (x y : ℕ) (x₁ : 1 ≤ x) (x₂ : x ≤ max_agents) (y₁ : 1 ≤ y) (y₂ : y ≤ max_agents) where
  pub line-shape : (length (w.channel x y) ≤ capacity) × (every (message_fits w x y) (w.channel x y) ≡ true)
  unfolding in_shape channel_in_shape has_room
  line-shape =
      let lines = (both (in_range w.problem && is_rule w.rule && all_to max_agents (agent_in_shape w)) _ shape).1 in
      let here = all_to-at max_agents (channel_in_shape w x) (all_to-at max_agents (λ i. all_to max_agents (channel_in_shape w i)) lines x x₁ x₂) y y₁ y₂ in
      let parts = both (has_room w x y && one_request w x y) (every (message_fits w x y) (w.channel x y)) here in
      (leb-true (length (w.channel x y)) capacity (both (has_room w x y) (one_request w x y) parts.0).0, parts.1)

-- ---- a delivery of m, with the others left behind it, on the line from i to j

module _ (w : Network) (shape : in_shape w ≡ true) (i j : ℕ) (m : Message) (others : List Message) (e : w.channel i j ≡ m ∷ others)
    (i₁ : 1 ≤ i) (i₂ : i ≤ max_agents) (j₁ : 1 ≤ j) (j₂ : j ≤ max_agents) (apart : i ≢ j) where
  -- j's lines get what it sends
  mine : (y : ℕ) → 1 ≤ y → y ≤ max_agents
      → has_room (handed w i j m others) j y ≡ leb (length (sent_to y (step_on w i j m).sent)) (room_on w j y)
  unfolding handed with_step with_channel posted has_room room_on
  mine y y₁ y₂ =
      rw (eq-eqb j j refl, posted, at_other w.channel i (at (w.channel i) j others) j (λ q. apart (sym q)), length-append)
      (fewer (length (w.channel j y)) _ (line-shape w shape j y j₁ j₂ y₁ y₂).0)
    where
      fewer : (held more : ℕ) → held ≤ capacity → leb (held + more) capacity ≡ leb more (capacity - held)
      fewer held more h =
          same_test (leb (held + more) capacity) (leb more (capacity - held))
          (λ t. le-leb more (capacity - held) (omega (arith, leb-true (held + more) capacity t)))
          (λ t. le-leb (held + more) capacity (omega (arith, leb-true more (capacity - held) t)))

  -- every other line keeps what it held, or loses its head
  rest : (x y : ℕ) → x ≢ j → 1 ≤ x → x ≤ max_agents → 1 ≤ y → y ≤ max_agents → has_room (handed w i j m others) x y ≡ true
  unfolding handed with_step with_channel posted has_room
  rest x y n x₁ x₂ y₁ y₂ =
      rw (ne_eqb x j n, posted)
      (at-cases (λ (lines : ℕ → List Message). leb (length (lines y)) capacity ≡ true) w.channel i (at (w.channel i) j others) x
      (λ q. at-cases (λ (l : List Message). leb (length l) capacity ≡ true) (w.channel i) j others y
      (λ r. le-leb (length others) capacity (omega (arith, rw e at (line-shape w shape i j i₁ i₂ j₁ j₂).0)))
      (λ r. le-leb (length (w.channel i y)) capacity (line-shape w shape i y i₁ i₂ y₁ y₂).0))
      (λ q. le-leb (length (w.channel x y)) capacity (line-shape w shape x y x₁ x₂ y₁ y₂).0))

  pub fits-mine : fits (handed w i j m others)
      ≡ all_to max_agents (λ y. leb (length (sent_to y (step_on w i j m).sent)) (room_on w j y))
  unfolding fits
  fits-mine =
      same_test _ (all_to max_agents (λ y. leb (length (sent_to y (step_on w i j m).sent)) (room_on w j y)))
      (λ f. to-all_to max_agents _ λ y y₁ y₂. rw (← mine y y₁ y₂) (all_to-at max_agents _ (all_to-at max_agents _ f j j₁ j₂) y y₁ y₂))
      (λ f. to-all_to max_agents _ λ x x₁ x₂. to-all_to max_agents _ λ y y₁ y₂. eq_test x j
      (λ q. rw (q, mine y y₁ y₂) (all_to-at max_agents _ f y y₁ y₂))
      (λ n. rest x y n x₁ x₂ y₁ y₂))
