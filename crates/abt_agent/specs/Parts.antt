-- What the parts of an agent's code compute or need, where the rules have no name for it. A primed name is the definitions'.
use Rattle.std.specs.Prelude.{ℕ, ◌≤◌, ◌<◌, ◌≡◌, Bool, true, false, not, cond, ◌||◌, List, [], eqb, length, Option, Some, None}
use Rattle.model_base.specs.Finite.{all_to}
use Rattle.model_sheet.specs.Problem.{max_agents}
use Rattle.model_agent.specs.Message.{Assignment, known, Message as Message'}
use Rattle.model_agent.specs.Agent.{Self, Bans, Agent as Agent', Step as Step', above}
use Rattle.model_agent.specs.Choosing.{no_refuser, after, check_view}
use Rattle.model_agent.specs.Receiving.{keep_if, quiet, matches, unheard}
use Rattle.model_agent.specs.Shape.{EachNamed, RecordFits, MessageFits, any_value}
use Rattle.model_base.specs.Sets.{members}
use Rattle.abt_packed.specs.Packed.{assignment}
use Rattle.abt_choosing.specs.Conflicts.{self_of, Able, bans_in, ConflictsOf}
use Rattle.abt_choosing.specs.Choosing.{nogoods_of, Coherent}
use Rattle.abt_choosing.specs.declared.Conflicts.{Conflicts}
use Rattle.abt_choosing.specs.declared.AgentConfig.{AgentConfig}
use Rattle.abt_agent.specs.Abstract.{none_counted, agent_of}
use Rattle.abt_agent.specs.Posting.{links_to, news_to}
use Rattle.abt_agent.specs.Entries.{Above, Below}
use Rattle.abt_agent.specs.declared.Agent.{Agent}
use Rattle.abt_agent.specs.declared.Traffic.{Traffic}
use Rattle.abt_agent.specs.declared.Outbox.{Outbox}
use Rattle.abt_agent.specs.declared.State.{State}
use Rattle.abt_agent.specs.declared.Step.{Step}
use Rattle.abt_agent.specs.declared.Reaction.{Reaction}
use Rattle.abt_agent.specs.declared.Reaction.TheVariants.{Choose, Tell}
use Rattle.abt_agent.specs.declared.backing.Done.{Done}
use Rattle.abt_agent.specs.declared.receiving.Heard.{Heard}

-- ---- an agent taken apart

abbrev pub apart : Agent → Conflicts → State
apart a b =
    record {
      value = a.value;
      last = a.last;
      nogood_mask = a.nogood_mask;
      listens = a.listens;
      informs = a.informs;
      view = a.view.digits;
      conflicts = b;
    }

-- put together again, but for its counts: no rule reads them
abbrev pub agent_with : State → List ℕ → Agent
agent_with s nogoods =
    record {
      value = s.value;
      last = s.last;
      nogood_mask = s.nogood_mask;
      listens = s.listens;
      informs = s.informs;
      view = record { digits = s.view };
      nogoods = nogoods;
      sent = none_counted;
      received = none_counted;
    }

abbrev pub agent_in : State → List ℕ → Agent'
agent_in s nogoods = agent_of (agent_with s nogoods)

-- what a step that is done sends, less the words of its Backs
abbrev pub posts_of : Done → Outbox
posts_of d = record { links = d.links; told = d.told; value = d.state.value; next = 0; count = d.count }

-- the same of a step
abbrev pub step_with : Done → List ℕ → List ℕ → Step
step_with d nogoods backs =
    record {
      agent = agent_with d.state nogoods;
      outbox = posts_of d;
      backs = backs;
      conflicts = d.state.conflicts;
      unsolvable = d.unsolvable;
      still = false;
    }

-- .. and with its counts
abbrev pub step_whole : Done → List ℕ → List ℕ → Traffic → Traffic → Bool → Step
step_whole d nogoods backs sent received still =
    record {
      agent = record (agent_with d.state nogoods) { sent = sent; received = received };
      outbox = posts_of d;
      backs = backs;
      conflicts = d.state.conflicts;
      unsolvable = d.unsolvable;
      still = still;
    }

-- the state that tells its value to the agents of a set and does nothing else
abbrev pub tells_to : State → ℕ → Done
tells_to s told = record { state = s; links = 0; told = told; count = 0; unsolvable = false }

-- the still step
abbrev pub stays_with : Agent → State → Traffic → List ℕ → Step
stays_with a s received backs =
    record {
      agent = record a { nogood_mask = s.nogood_mask; view = record { digits = s.view }; received = received };
      outbox = posts_of (tells_to s 0);
      backs = backs;
      conflicts = s.conflicts;
      unsolvable = false;
      still = true;
    }

-- ---- what a step may count on

-- view and nogoods are coherent, and those informed are below
pub record Sound (own : AgentConfig) (s : State) (nogoods : List ℕ) : Type 0 where
  pub places : length nogoods ≡ 8
  pub coherent : Coherent own (assignment s.view) (nogoods_of s.nogood_mask nogoods)
  pub downward : Below own s.informs

-- the agent whose refusal is being worked, as the definitions have it
abbrev pub refuser_of : Option ℕ → ℕ
refuser_of None = no_refuser
refuser_of (Some k) = k

-- .. if there is one, it is below
abbrev pub Refuser : AgentConfig → Option ℕ → Type 0
Refuser own None = Unit {0}
Refuser own (Some k) = (own.number < k) × (k ≤ max_agents)

-- ---- choosing

-- the step that ends with value v, told to the agents of a set
abbrev pub has_taken : State → ℕ → ℕ → ℕ → ℕ → Done
has_taken s v told links count =
    record { state = record s { value = v; last = v }; links = links; told = told; count = count; unsolvable = false }

-- .. and the one that ends with none, by the verdict
abbrev pub has_failed : State → ℕ → ℕ → Done
has_failed s links count = record { state = record s { value = 0 }; links = links; told = 0; count = count; unsolvable = true }

-- ---- a changed view

unfoldable pub keeping : ℕ → ℕ → Option Assignment → Option Assignment
keeping k v None = None
keeping k v (Some lhs) = keep_if (not (known (lhs k)) || eqb (lhs k) v) lhs

-- ---- Backs

-- the agent, as far as its nogoods do not matter
abbrev pub listener : State → Agent'
listener s = agent_in s []

-- whom the view names is listened to
abbrev pub Listening : State → Type 0
Listening s = EachNamed (assignment s.view) (λ k v. members s.listens k ≡ true)

-- what a left side that holds brings an agent
pub record Brings (bans : Bans) (s : State) (lhs : Assignment) (h : Heard) : Type 0 where
  pub links : (k : ℕ) → members h.links k ≡ unheard (listener s) lhs k
  pub view : (k : ℕ) → assignment h.view k ≡ cond (unheard (listener s) lhs k) (lhs k) (assignment s.view k)
  pub conflicts_of : ConflictsOf bans (assignment h.view) h.conflicts

-- what a left side says to an agent
abbrev pub Hears : AgentConfig → Bans → State → Assignment → Option Heard → Type 0
Hears own bans s lhs None = all_to (above (self_of own)) (matches (listener s) lhs) ≡ false
Hears own bans s lhs (Some h) = (all_to (above (self_of own)) (matches (listener s) lhs) ≡ true) × Brings bans s lhs h

-- ---- a message taken in

-- a message finds an agent
pub record Handed (own : AgentConfig) (bans : List ℕ) (s : State) (nogoods : List ℕ) (from : ℕ) (m : Message') : Type 0 where
  pub able : Able own bans
  pub places : length nogoods ≡ 8
  pub agent : RecordFits any_value (self_of own) (agent_in s nogoods)
  pub message : MessageFits any_value (self_of own) (agent_in s nogoods) from m
  pub conflicts_of : ConflictsOf (bans_in bans) (assignment s.view) s.conflicts

-- what is left to do, done
abbrev pub done_as : Self → Bans → State → Reaction → List ℕ → Step'
done_as s bans a (Choose links refuser) nogoods = after (links_to links) (check_view s bans (refuser_of refuser) (agent_in a nogoods))
done_as s bans a (Tell told) nogoods = quiet (agent_in a nogoods) (news_to a.value told)

-- what an Info leaves to do, by whether the own value is banned now
abbrev pub left_by : Bool → Reaction
left_by true = Choose 0 None
left_by false = Tell 0

-- a state with what another sees
abbrev pub seen_by : State → State → State
seen_by s t = record s { nogood_mask = t.nogood_mask; view = t.view; conflicts = t.conflicts }

-- whom it speaks of
abbrev pub Addresses : AgentConfig → Reaction → Type 0
Addresses own (Choose links refuser) = Above own links × Refuser own refuser
Addresses own (Tell told) = Below own told

-- the step that the rules give is what is left to do
pub record Takes (own : AgentConfig) (bans : Bans) (s : State) (reaction : Reaction) (nogoods : List ℕ) (step : Step') : Type 0 where
  pub taken : done_as (self_of own) bans s reaction nogoods ≡ step
  pub sound : Sound own s nogoods
  pub conflicts_of : ConflictsOf bans (assignment s.view) s.conflicts
  pub addresses : Addresses own reaction
