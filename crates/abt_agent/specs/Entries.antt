-- What the entries of an agent need of the problem and of their caller, and what they promise.
use Rattle.std.specs.Prelude.{ℕ, ◌≤◌, ◌<◌, ◌≡◌, Bool, true, false, not, ◌&&◌, List, [], eqb}
use Rattle.model_base.specs.Finite.{within, every}
use Rattle.model_sheet.specs.Problem.{max_agents}
use Rattle.model_agent.specs.Message.{Message as Message'}
use Rattle.model_agent.specs.Traffic.{Sort, number, raised}
use Rattle.model_agent.specs.Agent.{Bans, Step as Step'}
use Rattle.model_agent.specs.Shape.{EachIn}
use Rattle.model_base.specs.Sets.{members}
use Rattle.abt_choosing.specs.Conflicts.{ConflictsOf}
use Rattle.abt_choosing.specs.declared.AgentConfig.{AgentConfig}
use Rattle.abt_agent.specs.Abstract.{assigned, count_of, agent_of}
use Rattle.abt_agent.specs.Posting.{news_to, posts_left, Ready, step_of}
use Rattle.abt_agent.specs.declared.Agent.{Agent}
use Rattle.abt_agent.specs.declared.Traffic.{Traffic}
use Rattle.abt_agent.specs.declared.Step.{Step}

-- ---- what is asked

-- the agents of a set are above, or below
abbrev pub Above : AgentConfig → ℕ → Type 0
Above own set = EachIn (members set) (λ k. k < own.number)

abbrev pub Below : AgentConfig → ℕ → Type 0
Below own set = EachIn (members set) (λ k. (own.number < k) × (k ≤ max_agents))

-- ---- what is promised

-- another agent
unfoldable pub is_other : AgentConfig → ℕ → Bool
is_other own k = within max_agents k && not (eqb k own.number)

-- the step that the rules give, its posts ready to be read, each to another agent, with what the view bars after it
pub record StepsAs (own : AgentConfig) (bans : Bans) (r : Step) (t : Step') : Type 0 where
  pub step : step_of r ≡ t
  pub ready : Ready r.outbox r.backs
  pub others : every (λ p. is_other own p.to) t.sent ≡ true
  pub conflicts_of : ConflictsOf bans (assigned r.agent.view) r.conflicts

-- the first agent with what the second sees and received
abbrev pub heard_by : Agent → Agent → Agent
heard_by a b = record a { nogood_mask = b.nogood_mask; view = b.view; received = b.received }

-- a still step sends nothing, and its agent is the one before but for what it sees and received
abbrev pub Still : Agent → Step → Type 0
Still a r = r.still ≡ true → (posts_left r.outbox r.backs ≡ []) × (r.agent ≡ heard_by a r.agent)

-- counts raised by so many messages of each sort
abbrev pub Raised : Traffic → List Message' → Traffic → Type 0
Raised c ms d = (x : Sort) → count_of d x ≡ raised (count_of c x) (number x ms)

-- the first step that the rules give: it sends its value to all that it informs, and nothing else
pub record BeginsAs (r : Agent) (t : Step') : Type 0 where
  pub agent : agent_of r ≡ t.agent
  pub sent : news_to r.value r.informs ≡ t.sent
  pub unsolvable : t.unsolvable ≡ false
