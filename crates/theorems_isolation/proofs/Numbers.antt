-- On a network in shape, a message waits only between two different agents of 1 to n. So whether a line that holds one has good numbers is known
-- without n.
use Rattle.std.proofs.Common.{ℕ, ◌≤◌, ◌≡◌, sym, ◌∙◌, ◌≢◌, true, false, not, ◌&&◌, ◌||◌, List, ◌∷◌, arith, eqb, leb, ltb, leb-true, leb-false, ltb-true, ne_eqb}
use mathlib.Core.Bool.{and-false, false≢true}
use Rattle.model_base.specs.Finite.{within, every}
use Rattle.model_base.proofs.Tests.{test, both, to_both, within-true, to-within}
use Rattle.model_base.proofs.Search.{all_to-at}
use Rattle.model_base.proofs.Peeling.{same_test}
use Rattle.model_sheet.specs.Problem.{max_agents, domain, owns, in_range}
use Rattle.model_sheet.proofs.Range.{Ranged, ranged}
use Rattle.model_agent.specs.Message.{Message, Info, Back, AddLink}
use Rattle.model_agent.specs.Agent.{Agent}
use Rattle.model_agent.specs.Shape.{max_named}
use Rattle.model_network.specs.Network.{Network, is_rule}
use Rattle.model_network.specs.Shape.{each_in, unused, agent_in_shape, lhs_fits, message_fits, in_shape}
use Rattle.model_network.specs.Delivery.{numbers_good}
use Rattle.theorems_isolation.proofs.Room.{line-shape}

-- an unused record listens to nobody
deaf : (a : Agent) (k : ℕ) → 1 ≤ k → k ≤ max_agents → a.listens k ≡ true → unused a ≡ false
unfolding unused each_in max_agents max_named
deaf a k k₁ k₂ l =
    test (each_in a.listens (λ k. false))
    (λ t. absurd (false≢true (rw l at (all_to-at max_named (λ k. not (a.listens k) || false) t k k₁ (omega arith)))))
    (λ f. simp (f, and-false))

module _ (w : Network) (shape : in_shape w ≡ true) where
  range : Ranged w.problem
  unfolding in_shape
  range = ranged w.problem (both _ _ (both _ _ (both _ _ shape).0).0).0

  -- who owns a value is one of 1 to n
  owner : (k x : ℕ) → k ≤ max_agents → owns w.problem k x ≡ true → k ≤ w.problem.count
  unfolding owns
  owner k x k₂ o =
      let b = within-true (domain w.problem k) x o in
      test (leb k w.problem.count)
      (λ q. leb-true k w.problem.count q)
      (λ q. absurd (omega (arith, range.beyond k (leb-false k w.problem.count q) k₂)))

  -- who listens is one of 1 to n
  listener : (k x : ℕ) → 1 ≤ k → k ≤ max_agents → 1 ≤ x → x ≤ max_agents → (w.agents k).listens x ≡ true → k ≤ w.problem.count
  unfolding in_shape agent_in_shape
  listener k x k₁ k₂ x₁ x₂ l =
      let here = all_to-at max_agents (agent_in_shape w) (both (in_range w.problem && is_rule w.rule) _ (both _ _ shape).0).1 k k₁ k₂ in
      test (leb k w.problem.count)
      (λ q. leb-true k w.problem.count q)
      (λ q. absurd (false≢true (sym (deaf (w.agents k) x x₁ x₂ l) ∙ (rw (q, agent_in_shape) at here))))

  -- the ends of a line that holds a message
  ends : (i j : ℕ) (m : Message) → 1 ≤ i → i ≤ max_agents → 1 ≤ j → j ≤ max_agents → message_fits w i j m ≡ true
      → (i ≤ w.problem.count) × (j ≤ w.problem.count) × (i ≢ j)
  unfolding message_fits
  ends i j (Info x) i₁ i₂ j₁ j₂ f =
      let b = both _ _ f in
      let c = both (ltb i j) (owns w.problem i x) b.0 in
      let h = ltb-true i j c.0 in
      (owner i x i₂ c.1, listener j i j₁ j₂ i₁ i₂ b.1, λ e. absurd (omega arith))
  ends i j (Back lhs x) i₁ i₂ j₁ j₂ f =
      let b = both _ _ (both _ (lhs_fits w.problem j lhs) f).0 in
      let c = both (ltb j i) (owns w.problem j x) b.0 in
      let h = ltb-true j i c.0 in
      (listener i j i₁ i₂ j₁ j₂ b.1, owner j x j₂ c.1, λ e. absurd (omega arith))
  ends i j AddLink i₁ i₂ j₁ j₂ f =
      let b = both (ltb j i) _ (both _ (not ((w.agents j).informs i)) f).0 in
      let h = ltb-true j i b.0 in
      let u = listener i j i₁ i₂ j₁ j₂ b.1 in
      (u, omega arith, λ e. absurd (omega arith))

  pub numbers-known : (i j : ℕ) (m : Message) (others : List Message) → w.channel i j ≡ m ∷ others
      → numbers_good w i j ≡ within max_agents i && within max_agents j
  unfolding numbers_good every
  numbers-known i j m others e = same_test (numbers_good w i j) (within max_agents i && within max_agents j) below among
    where
      below : numbers_good w i j ≡ true → within max_agents i && within max_agents j ≡ true
      below g =
          let b = both (within w.problem.count i) (within w.problem.count j) (both _ (not (eqb i j)) g).0 in
          let a = within-true w.problem.count i b.0 in
          let c = within-true w.problem.count j b.1 in
          let n = range.high in
          to_both _ _ (to-within max_agents i a.0 (omega arith)) (to-within max_agents j c.0 (omega arith))

      among : within max_agents i && within max_agents j ≡ true → numbers_good w i j ≡ true
      among g =
          let b = both (within max_agents i) (within max_agents j) g in
          let (i₁, i₂) = within-true max_agents i b.0 in
          let (j₁, j₂) = within-true max_agents j b.1 in
          let f = rw e at (line-shape w shape i j i₁ i₂ j₁ j₂).1 in
          let r = ends i j m i₁ i₂ j₁ j₂ (both (message_fits w i j m) _ f).0 in
          rw (to-within w.problem.count i i₁ r.0, to-within w.problem.count j j₁ r.1, ne_eqb i j r.2)
