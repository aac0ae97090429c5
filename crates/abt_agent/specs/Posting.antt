-- What a step sends, as the code holds it: the posts that are left, in the order of sending. A primed name is the definitions'.
use Rattle.std.specs.Prelude.{ℕ, ◌≤◌, ◌<◌, ◌≡◌, Bool, true, false, ◌&&◌, List, [], ◌∷◌, ◌++◌, map, eqb, length, get_or, take, drop}
use Rattle.model_base.specs.Finite.{gather, highest}
use Rattle.model_sheet.specs.Problem.{max_agents}
use Rattle.model_agent.specs.Message.{known, Message as Message', Info as Info', AddLink as AddLink', Post as Post'}
use Rattle.model_agent.specs.Agent.{Step as Step'}
use Rattle.model_agent.specs.Choosing.{refusing}
use Rattle.model_agent.specs.Shape.{max_named, EachIn}
use Rattle.model_base.specs.Sets.{members}
use Rattle.abt_packed.specs.Packed.{assignment, number_of}
use Rattle.abt_agent.specs.Abstract.{agent_of}
use Rattle.abt_agent.specs.declared.Envelopes.{Envelopes}
use Rattle.abt_agent.specs.declared.Outbox.{Outbox}
use Rattle.abt_agent.specs.declared.Step.{Step}

-- ---- the same message to each agent of a set, upward

unfoldable pub post_if : Bool → Message' → ℕ → List Post'
post_if true m k = record { to = k; message = m } ∷ []
post_if false m k = []

unfoldable pub posts_to : Message' → (ℕ → Bool) → List Post'
posts_to m set = gather max_agents 1 (λ k. post_if (set k) m k)

unfoldable pub links_to : ℕ → List Post'
links_to links = posts_to AddLink' (members links)

unfoldable pub news_to : ℕ → ℕ → List Post'
news_to value told = posts_to (Info' value) (members told)

-- ---- Backs

-- a whole nogood goes to the highest-numbered agent that it names
unfoldable pub back_of : ℕ → Post'
back_of x = refusing (number_of (highest max_named (λ k. known (assignment x k)))) (assignment x)

-- those at the places `next` on, up to `count`
unfoldable pub backs_from : ℕ → ℕ → List ℕ → List Post'
backs_from next count backs = map back_of (drop next (take count backs))

-- ---- the posts left

-- link requests, then Backs, then Infos
unfoldable pub posts_left : Outbox → List ℕ → List Post'
posts_left p backs = links_to p.links ++ backs_from p.next p.count backs ++ news_to p.value p.told

abbrev pub envelopes_left : Envelopes → List Post'
envelopes_left l = posts_left l.outbox l.backs.now

unfoldable pub none_left : Outbox → Bool
none_left p = eqb p.links 0 && eqb p.told 0 && eqb p.next p.count

-- all but the first
unfoldable pub tail_of : List Post' → List Post'
tail_of [] = []
tail_of (p ∷ ps) = ps

-- a whole nogood that names an agent, and none beyond the twelfth
pub record Sendable (x : ℕ) : Type 0 where
  pub some : 1 ≤ x
  pub short : x < 281474976710656

-- the posts are there to be read
pub record Ready (p : Outbox) (backs : List ℕ) : Type 0 where
  pub links : EachIn (members p.links) (λ k. k ≤ max_agents)
  pub told : EachIn (members p.told) (λ k. k ≤ max_agents)
  pub next : p.next ≤ p.count
  pub few : p.count ≤ 11
  pub places : length backs ≡ 11
  pub wholes : (i : ℕ) → i < p.count → Sendable (get_or backs i 0)

unfoldable pub step_of : Step → Step'
step_of t = record { agent = agent_of t.agent; sent = posts_left t.outbox t.backs; unsolvable = t.unsolvable }
