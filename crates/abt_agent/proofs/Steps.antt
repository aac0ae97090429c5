-- Steps that do not choose: what an agent that tells a set of agents sends, and what it leaves to do.
use Rattle.std.proofs.Common.{ℕ, ◌<◌, ◌≤◌, ◌≡◌, refl, ap, true, false, List, [], ◌++◌, not-suc-le-zero, arith, length}
use Rattle.model_base.specs.Finite.{at}
use Rattle.model_sheet.specs.Problem.{max_agents}
use Rattle.model_agent.specs.Message.{Post as Post'}
use Rattle.model_agent.specs.Agent.{Bans}
use Rattle.model_agent.specs.Receiving.{quiet, answer}
use Rattle.model_base.specs.Sets.{members}
use Rattle.abt_packed.specs.Packed.{assignment}
use Rattle.abt_choosing.specs.Conflicts.{ConfigFits, ConflictsOf}
use Rattle.abt_choosing.specs.declared.AgentConfig.{AgentConfig}
use Rattle.abt_agent.specs.Abstract.{assigned, agent_of}
use Rattle.abt_agent.specs.Posting.{news_to, backs_from, posts_left, step_of}
use Rattle.abt_agent.specs.Entries.{Below, StepsAs}
use Rattle.abt_agent.specs.Parts.{agent_in, posts_of, step_with, tells_to, Sound, Takes}
use Rattle.abt_agent.specs.declared.State.{State}
use Rattle.abt_agent.specs.declared.Reaction.TheVariants.{Tell}
use Rattle.abt_agent.proofs.Sending.{steps-as}
use Rattle.abt_agent.proofs.ToSet.{none_in, one_in, links-none, news-none, news-one}

pub steps-quiet : (own : AgentConfig) (bans : Bans) (s : State) (nogoods backs : List ℕ) (told : ℕ) → ConfigFits own → length backs ≡ 11 → Below own told
    → ConflictsOf bans (assignment s.view) s.conflicts
    → StepsAs own bans
    (step_with (tells_to s told) nogoods backs)
    (quiet (agent_in s nogoods) (news_to s.value told))
unfolding quiet step_of posts_left backs_from assigned
steps-quiet own bans s nogoods backs told fits long below conflicts_of =
    steps-as own bans _ _ fits
    (record {
      links = none_in _;
      told = below;
      next = refl;
      few = omega arith;
      places = long;
      wholes = λ i h. absurd (not-suc-le-zero h);
    })
    (ap (λ (l : List Post'). record {
      agent = agent_in s nogoods;
      sent = l ++ backs_from 0 0 backs ++ news_to s.value told;
      unsolvable = false;
    }) links-none)
    conflicts_of

-- nobody is told anything
pub tells-nobody : (s : State) (backs : List ℕ) → posts_left (posts_of (tells_to s 0)) backs ≡ []
unfolding posts_left backs_from
tells-nobody s backs = rw (links-none, news-none s.value)

-- the same, left to do
pub takes-quiet : (own : AgentConfig) (bans : Bans) (s : State) (nogoods : List ℕ) (told : ℕ) (ps : List Post') → Sound own s nogoods
    → ConflictsOf bans (assignment s.view) s.conflicts → Below own told → news_to s.value told ≡ ps
    → Takes own bans s (Tell told) nogoods (quiet (agent_in s nogoods) ps)
takes-quiet own bans s nogoods told ps sound conflicts_of below e =
    record {
      taken = ap (λ (l : List Post'). quiet (agent_in s nogoods) l) e;
      sound = sound;
      conflicts_of = conflicts_of;
      addresses = below;
    }

-- the own value, told to one agent below
pub takes-answer : (own : AgentConfig) (bans : Bans) (s : State) (nogoods : List ℕ) (told from : ℕ) → own.number < from → from ≤ max_agents
    → members told ≡ at (members 0) from true → Sound own s nogoods → ConflictsOf bans (assignment s.view) s.conflicts
    → Takes own bans s (Tell told) nogoods
    (quiet (agent_in s nogoods) (answer (agent_in s nogoods) from))
unfolding answer agent_of max_agents
takes-answer own bans s nogoods told from l h e sound conflicts_of =
    takes-quiet own bans s nogoods told _ sound conflicts_of (one_in _ told from e (l, h)) (news-one s.value told from (omega arith) h e)
