-- The whole shape, in the order in which the code tests it; and the masks that it takes of a network's agents are theirs.
use Rattle.std.proofs.Common.{ℕ, zero, suc, ◌+◌, ◌%◌, ◌≤◌, ◌<◌, ◌≡◌, refl, sym, ◌∙◌, Bool, true, false, ◌&&◌, List, [], ◌∷◌, map, length, get_or, arith, eq-eqb}
use mathlib.Core.Bool.{and-false, false≢true}
use Rattle.model_base.specs.Finite.{from_one, all_to}
use Rattle.model_base.proofs.Tests.{test, eq_test}
use Rattle.model_base.proofs.Search.{all_to-at, to-all_to}
use Rattle.model_sheet.specs.Problem.{max_agents, max_pairs, sized, domain, in_range}
use Rattle.model_sheet.proofs.Range.{ranged as in-range}
use Rattle.model_agent.specs.Agent.{Agent as Agent', unused_agent}
use Rattle.model_network.specs.Network.{is_rule}
use Rattle.model_network.specs.Shape.{agent_in_shape, in_shape}
use Rattle.model_base.specs.Sets.{members}
use Rattle.abt_packed.specs.Packed.{assignment}
use Rattle.abt_agent.specs.Abstract.{agent_of}
use Rattle.abt_agent.specs.declared.Agent.{Agent}
use Rattle.abt_record.specs.Abstract.{problem_of, agents_of, network_of}
use Rattle.abt_shape.specs.Parts.{Domains, set_of, agent_passes}
use Rattle.abt_record.specs.declared.Network.{Network}
use Rattle.abt_packed.proofs.Sets.{no-members}
use Rattle.abt_shape.proofs.Links.{agents-pass}
use Rattle.abt_shape.proofs.Ranges.{small-domain}
use Rattle.abt_record.specs.Looking.{channels_in_shape}
use Rattle.abt_shape.specs.Frames.{Framing}

-- ---- the masks

abbrev pub listens_of : Agent → ℕ
listens_of a = a.listens

abbrev pub informs_of : Agent → ℕ
informs_of a = a.informs

module _ (set : Agent' → ℕ → Bool) (mask : Agent → ℕ) (is : (a : Agent) (j : ℕ) → set (agent_of a) j ≡ members (mask a) j)
    (none : (j : ℕ) → set unused_agent j ≡ false) (j : ℕ) where
  set-in : (agents : List Agent) (k : ℕ) → set (get_or (map agent_of agents) k unused_agent) j ≡ members (get_or (map mask agents) k 0) j
  set-in [] k = none j ∙ sym (no-members j)
  set-in (a ∷ agents) zero = is a j
  set-in (a ∷ agents) (suc k) = set-in agents k

  sets-are : (agents : List Agent) (k : ℕ) → set (agents_of (map agent_of agents) k) j ≡ set_of (map mask agents) k j
  unfolding agents_of set_of from_one
  sets-are agents zero = none j ∙ sym (no-members j)
  sets-are agents (suc k) = set-in agents k

-- the frame is the network's
pub framing : (r : Network) (domains : ℕ) (listeners informers : List ℕ) → ((k : ℕ) → assignment domains k ≡ domain (problem_of r) k % 16)
    → listeners ≡ map listens_of r.agents → informers ≡ map informs_of r.agents → in_range (problem_of r) ≡ true
    → Framing (network_of r) (record { count = r.count; unsolvable = r.unsolvable; domains = domains; listens = listeners; informs = informers })
unfolding network_of problem_of agent_of unused_agent
framing r domains listeners informers d e f t =
    rw (e, f)
    (let owned : Domains (problem_of r) domains = λ k. d k ∙ small-domain (problem_of r) (in-range (problem_of r) t) k in
    record {
      agents = record { count-is = refl; verdict-is = refl; owned = owned; informs = λ k j. sets-are (λ a. a.informs) informs_of (λ a i. refl) (λ i. refl) j r.agents k };
      messages = record { owned = owned; listens = λ k j. sets-are (λ a. a.listens) listens_of (λ a i. refl) (λ i. refl) j r.agents k };
    })

-- ---- the arrays have their lengths

pub lengths : (r : Network) → length r.domains ≡ 12 → length r.bans ≡ 66 → sized (problem_of r) ≡ true
unfolding sized problem_of max_agents max_pairs
lengths r d b = rw (eq-eqb (length r.domains) 12 d, eq-eqb (length r.bans) 66 b)

-- ---- the problem and the rule, the agents, the channels

unfoldable agents_in_shape : Network → Bool
agents_in_shape r = all_to max_agents (agent_in_shape (network_of r))

whole : (r : Network) → in_shape (network_of r) ≡ in_range (problem_of r) && is_rule r.rule && agents_in_shape r && channels_in_shape r
unfolding in_shape agents_in_shape channels_in_shape network_of
whole r = refl

-- the rule and the problem
pub no-rule : (r : Network) → is_rule r.rule ≡ false → in_shape (network_of r) ≡ false
no-rule r e = whole r ∙ rw (e, and-false (in_range (problem_of r)))

pub no-range : (r : Network) → in_range (problem_of r) ≡ false → in_shape (network_of r) ≡ false
no-range r e = whole r ∙ rw e

-- the problem and the rule are in range and the agents 1 to i pass
pub record AgentsFit (r : Network) (i : ℕ) : Type 0 where
  pub ranged : in_range (problem_of r) ≡ true
  pub ruled : is_rule r.rule ≡ true
  pub agents : (x : ℕ) → 1 ≤ x → x ≤ i → agent_passes (network_of r) x ≡ true

module _ (r : Network) (i : ℕ) (a : AgentsFit r i) where
  passing : agents_in_shape r ≡ all_to 12 (agent_passes (network_of r))
  unfolding agents_in_shape max_agents network_of
  passing = agents-pass (network_of r) (in-range (problem_of r) a.ranged).high

  pub agent-unfit : i < 12 → agent_passes (network_of r) (i + 1) ≡ false → in_shape (network_of r) ≡ false
  agent-unfit h e = whole r ∙ rw (a.ranged, a.ruled, passing, fails)
    where
      fails : all_to 12 (agent_passes (network_of r)) ≡ false
      fails =
          test (all_to 12 (agent_passes (network_of r)))
          (λ t. absurd (false≢true (sym e ∙ all_to-at 12 (agent_passes (network_of r)) t (i + 1) (omega arith) (omega arith))))
          (λ t. t)

  pub agent-passed : agent_passes (network_of r) (i + 1) ≡ true → AgentsFit r (i + 1)
  agent-passed e =
      record {
        ranged = a.ranged;
        ruled = a.ruled;
        agents = λ x l u. eq_test x (i + 1) (λ q. rw q e) (λ n. a.agents x l (omega (arith, n)));
      }

  -- only the channels are left
  pub agents-passed : 12 ≤ i → in_shape (network_of r) ≡ channels_in_shape r
  agents-passed h = whole r ∙ rw (a.ranged, a.ruled, passing, to-all_to 12 (agent_passes (network_of r)) (λ x l u. a.agents x l (omega arith)))
