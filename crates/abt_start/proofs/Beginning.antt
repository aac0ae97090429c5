-- One agent begins: the record that its code gives, and the Infos that it sends, go into the network as the definition's first step does.
use Rattle.std.proofs.Common.{◌≡◌, sym, ap, ◌∙◌, Bool, true, false, ℕ, suc, ◌≤◌, ◌<◌, arith, length, set}
use mathlib.Core.Bool.{or-false}
use Rattle.model_sheet.specs.Problem.{Problem, max_agents, linked}
use Rattle.model_base.proofs.Tests.{test}
use Rattle.model_sheet.proofs.Range.{Ranged, linked-pair, linked-inside}
use Rattle.model_agent.specs.Agent.{Agent as Agent', Step}
use Rattle.model_agent.specs.Receiving.{begin}
use Rattle.model_network.specs.Network.{self_of, bans_of, with_step, begun}
use Rattle.theorems_shape.proofs.Start.{begins}
use Rattle.abt_choosing.specs.Conflicts.{self_of as own_of}
use Rattle.abt_choosing.specs.declared.AgentConfig.{AgentConfig}
use Rattle.abt_agent.specs.declared.Agent.{Agent}
use Rattle.abt_agent.specs.Abstract.{agent_of}
use Rattle.abt_agent.specs.Posting.{news_to}
use Rattle.abt_agent.specs.Entries.{BeginsAs}
use Rattle.model_base.specs.Sets.{members}
use Rattle.abt_record.specs.declared.Network.{Network}
use Rattle.abt_record.specs.Abstract.{problem_of, channel_of, network_of}
use Rattle.abt_record_laws.proofs.Changes.{agents-put}
use Rattle.abt_start.proofs.Posting.{with_posts}

-- ---- its step

pub begun-by : (rule : ℕ) (p : Problem) (i : ℕ) (a : Agent) (own : AgentConfig) (m n : ℕ)
    → BeginsAs a (begin (own_of own) (bans_of p i) (members m) (members n)) → own_of own ≡ self_of rule p i
    → members m ≡ (λ k. linked p k i) → members n ≡ (λ k. linked p i k) → BeginsAs a (begun rule p i)
unfolding begun
begun-by rule p i a own m n e s l k = rw (s, l, k) at e

-- nobody beyond the problem's agents is linked
pub not_beyond : (p : Problem) → Ranged p → (i k : ℕ) → p.count < k → linked p i k ≡ false
not_beyond p r i k h = test (linked p i k) (λ e. absurd (omega (arith, (linked-inside p r i k e).2))) (λ e. e)

-- those it informs are below
pub informs-below : (rule : ℕ) (p : Problem) (i : ℕ) (a : Agent) → Ranged p → 1 ≤ i → i ≤ p.count → BeginsAs a (begun rule p i)
    → (j : ℕ) → members a.informs j ≡ true → (i < j) × (j ≤ 12)
unfolding agent_of max_agents
informs-below rule p i a r l h b j e =
    let informed = (begins rule p r i l h).informed in
    let s : linked p i j ≡ true = ap (λ (g : ℕ → Bool). g j) (sym (ap (λ (x : Agent'). x.informs) b.agent ∙ informed)) ∙ e in
    let q = linked-pair p i j s in
    (q.1, q.2)

-- ---- its step, put into the network

-- the network with an agent's record
abbrev pub with_agent : Network → ℕ → Agent → Network
with_agent o m a =
    record {
      count = o.count;
      rule = o.rule;
      domains = o.domains;
      bans = o.bans;
      unsolvable = o.unsolvable;
      agents = set o.agents m a;
      heads = o.heads;
      counts = o.counts;
      places = o.places;
    }

pub step-put : (o : Network) (m : ℕ) (a : Agent) (t : Step) → BeginsAs a t → m < length o.agents
    → with_posts (network_of (with_agent o m a)) (suc m) (news_to a.value a.informs) ≡ with_step (network_of o) (suc m) t
unfolding network_of with_posts with_step problem_of channel_of
step-put o m a t b h = rw (← b.agent, ← b.sent, b.unsolvable, or-false o.unsolvable, agents-put o.agents m a h)
