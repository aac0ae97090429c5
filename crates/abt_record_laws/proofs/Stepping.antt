-- The receiver's step: what its code is handed means what the network has for it, so its step is the definitions' step; and in a network in shape
-- its record and the message fit.
use Rattle.std.proofs.Common.{ℕ, zero, suc, pred, ◌-◌, ◌≤◌, Bool, true, ◌≡◌, ap, List, ◌∷◌, arith, get_or}
use Rattle.model_base.proofs.Tests.{within-true}
use Rattle.model_base.proofs.Lists.{All}
use Rattle.model_sheet.specs.Problem.{max_agents, max_domain, pairs_before, domain, owns}
use Rattle.model_agent.specs.Message.{Message as Message', Info as Info', Back as Back', AddLink as AddLink'}
use Rattle.model_agent.specs.Agent.{Self, Agent as Agent'}
use Rattle.model_agent.specs.Receiving.{receive}
use Rattle.model_agent.specs.Shape.{any_value, RecordFits, MessageFits}
use Rattle.abt_choosing.specs.Conflicts.{self_of as self_of', Able, ViewFits, bans_in}
use Rattle.abt_choosing.specs.declared.AgentConfig.{AgentConfig}
use Rattle.abt_agent.specs.declared.Agent.{Agent}
use Rattle.abt_agent.specs.declared.Message.{Message}
use Rattle.abt_agent.specs.Abstract.{assigned, message_of, agent_of}
use Rattle.model_network.specs.Network.{self_of, bans_of, step_on}
use Rattle.model_network.specs.Shape.{in_shape}
use Rattle.theorems_shape.proofs.ShapeClauses.{MessageShaped, shaped}
use Rattle.theorems_shape.proofs.DeliverShape.{Head, owned-any, record-fits, message-fits}
use Rattle.abt_record.specs.declared.Network.{Network}
use Rattle.abt_record.specs.Abstract.{problem_of, network_of}
use Rattle.abt_record_laws.proofs.Words.{part, part_length, part-bans}
use Rattle.abt_record_laws.proofs.Changes.{FullArrays, agent-is}

-- an agent's number and domain, and the rule
abbrev pub own : ℕ → List ℕ → ℕ → AgentConfig
own rule domains j = record { number = j; domain = get_or domains (j - 1) 0; rule = rule }

domain-is : (o : Network) (j : ℕ) → 1 ≤ j → get_or o.domains (j - 1) 0 ≡ domain (problem_of o) j
unfolding domain problem_of
domain-is o zero h = absurd (omega arith)
domain-is o (suc k) h = let e : suc k - 1 ≡ k = omega arith in rw e

pub self-is : (o : Network) (j : ℕ) → 1 ≤ j → self_of' (own o.rule o.domains j) ≡ self_of (network_of o).rule (network_of o).problem j
unfolding self_of self_of' network_of
self-is o j h = ap (λ (v : ℕ). record { number = j; domain = v; rule = o.rule }) (domain-is o j h)

pub step_is : (o : Network) (domains bans : List ℕ) (i j a : ℕ) (d : Agent) (m : Message) → FullArrays o → domains ≡ o.domains → bans ≡ o.bans
    → 1 ≤ j → j ≤ 12 → a ≡ pairs_before (pred j)
    → receive (self_of' (own o.rule domains j)) (bans_in (part bans a j)) (agent_of (get_or o.agents (j - 1) d)) i (message_of m)
    ≡ step_on (network_of o) i j (message_of m)
unfolding step_on network_of problem_of
step_is o domains bans i j a d m z p q lo hi e =
    rw (p, q, self-is o j lo, problem-bans, ← agent-is o d j z lo hi)
  where
    problem-bans : bans_in (part o.bans a j) ≡ bans_of (network_of o).problem j
    problem-bans = part-bans (network_of o).problem a j z.bans lo hi e

-- ---- in shape

weaker-record : (p q : ℕ → ℕ → Bool) (s : Self) (a : Agent') → ((k v : ℕ) → p k v ≡ true → q k v ≡ true) → RecordFits p s a → RecordFits q s a
weaker-record p q s a f r =
    record {
      valued = r.valued;
      kept = r.kept;
      upward = r.upward;
      downward = r.downward;
      viewed = λ k l h e. let b = r.viewed k l h e in (b.0, f k (a.view k) b.1);
      agreed = r.agreed;
    }

weaker-message : (p q : ℕ → ℕ → Bool) (s : Self) (a : Agent') (i : ℕ) (m : Message') → ((k v : ℕ) → p k v ≡ true → q k v ≡ true)
    → MessageFits p s a i m → MessageFits q s a i m
weaker-message p q s a i (Info' v) f r = (r.0, r.1, f i v r.2)
weaker-message p q s a i (Back' lhs v) f r = (r.0, r.1, r.2, λ k l h e. let b = r.3 k l h e in (b.0, f k (lhs k) b.1))
weaker-message p q s a i AddLink' f r = r

module _ (o : Network) (i j : ℕ) (m : Message) (others : List Message') (z : FullArrays o) (H : Head (network_of o) i j (message_of m) others) where
  high : j ≤ 12
  unfolding max_agents
  high = omega (arith, H.to_high, H.shape.range.high)

  owned : (k v : ℕ) → owns (network_of o).problem k v ≡ true → any_value k v ≡ true
  owned = owned-any (network_of o).problem H.shape.range

  -- what the step asks
  pub able : (domains bans : List ℕ) (a : ℕ) → domains ≡ o.domains → bans ≡ o.bans → a ≡ pairs_before (pred j)
      → Able (own o.rule domains j) (part bans a j)
  unfolding network_of problem_of max_domain
  able domains bans a p q e =
      let v = H.shape.range.domained j H.to_low H.to_high in
      let d = domain-is o j H.to_low in
      record {
        fits = record { first = H.to_low; last = high; some = rw (p, d) v.0; few = rw (p, d) v.1 };
        bans = rw q (part_length (network_of o).problem a j z.bans H.to_low high e);
      }

  pub receiver-fits : (d : Agent) (domains : List ℕ) → domains ≡ o.domains
      → RecordFits any_value (self_of' (own o.rule domains j)) (agent_of (get_or o.agents (j - 1) d))
  receiver-fits d domains p =
      rw (p, self-is o j H.to_low, ← agent-is o d j z H.to_low high)
      (weaker-record (owns (network_of o).problem) any_value (self_of (network_of o).rule (network_of o).problem j) ((network_of o).agents j) owned
      (record-fits (network_of o) j H.shape H.running H.to_low H.to_high))

  -- its view names agents above, at values that a word of bans has room for
  pub view-fits : (d : Agent) (domains : List ℕ) → domains ≡ o.domains → ViewFits (own o.rule domains j) (assigned (get_or o.agents (j - 1) d).view)
  unfolding agent_of any_value self_of'
  view-fits d domains p k lo hi e =
      let r = receiver-fits d domains p in
      let v = r.viewed k lo hi e in
      (r.upward k lo hi v.0, (within-true max_domain _ v.1).1)

  shaped-head : MessageShaped (network_of o) i j (message_of m)
  unfolding max_agents
  shaped-head =
      let top = H.shape.range.high in
      let c = H.shape.channels i j H.from_low (omega (arith, H.from-high)) H.to_low high in
      let ms : All (MessageShaped (network_of o) i j) (message_of m ∷ others) = rw H.head at c.messages in
      ms.0

  pub message-received : (d : Agent) (domains : List ℕ) → domains ≡ o.domains
      → MessageFits any_value (self_of' (own o.rule domains j)) (agent_of (get_or o.agents (j - 1) d)) i (message_of m)
  unfolding max_agents
  message-received d domains p =
      rw (p, self-is o j H.to_low, ← agent-is o d j z H.to_low high)
      (weaker-message (owns (network_of o).problem) any_value (self_of (network_of o).rule (network_of o).problem j) ((network_of o).agents j) i (message_of m) owned
      (message-fits (network_of o) i j (message_of m) H.from_low (omega (arith, H.from-high, H.shape.range.high)) shaped-head))

-- a network in shape has at most twelve agents
pub few-agents : (o : Network) → in_shape (network_of o) ≡ true → o.count ≤ 12
unfolding network_of problem_of max_agents
few-agents o s = (shaped (network_of o) s).range.high
