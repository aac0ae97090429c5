-- The network (rail): the problem, the agents, and the channels (lines) between them; and the start. docs/RULES.md, 'The rail' and, for the start, 'What a scanner does'.
use Rattle.std.specs.Prelude.{ℕ, Bool, true, false, not, ◌||◌, List, [], ◌++◌, eqb}
use Rattle.model_base.specs.Finite.{at, within, all_to}
use Rattle.model_sheet.specs.Problem.{Problem, domain, banned, linked, empty_problem}
use Rattle.model_sheet.specs.Sheet.{fault_number, Decoded, Valid, Invalid, decode}
use Rattle.model_agent.specs.Message.{Message, Post, sent_to}
use Rattle.model_agent.specs.Agent.{Self, Bans, Agent, Step, unused_agent}
use Rattle.model_agent.specs.Receiving.{receive, begin}

-- Two networks are the same when they are equal: the record holds what docs/RULES.md says that two rails must agree in, and nothing else.
pub record Network : Type 0 where
  pub problem : Problem  -- n, slot counts and bans
  pub rule : ℕ  -- "a rule, 1 or 2"
  pub unsolvable : Bool  -- the verdict "none" stands
  pub agents : ℕ → Agent  -- by number
  pub channel : ℕ → ℕ → List Message  -- by sender and receiver: the messages waiting, first in first out

-- "empty rail (n = 0, all else zero)"
unfoldable pub empty_network : Network
empty_network = record { problem = empty_problem; rule = 0; unsolvable = false; agents = λ i. unused_agent; channel = λ i j. [] }

-- ---- a network with one part changed. The rules change networks by these alone.

abbrev pub with_verdict : Network → Bool → Network
with_verdict w unsolvable = record { problem = w.problem; rule = w.rule; unsolvable = unsolvable; agents = w.agents; channel = w.channel }

abbrev pub with_agents : Network → (ℕ → Agent) → Network
with_agents w agents = record { problem = w.problem; rule = w.rule; unsolvable = w.unsolvable; agents = agents; channel = w.channel }

abbrev pub with_channels : Network → (ℕ → ℕ → List Message) → Network
with_channels w channel = record { problem = w.problem; rule = w.rule; unsolvable = w.unsolvable; agents = w.agents; channel = channel }

-- ---- what an agent has of the problem and the rule

unfoldable pub self_of : ℕ → Problem → ℕ → Self
self_of rule p i = record { number = i; domain = domain p i; rule = rule }

unfoldable pub bans_of : Problem → ℕ → Bans
bans_of p i k v w = banned p k i v w

-- ---- an agent's step, put into the network

-- what agent j sends goes to the ends of its channels
unfoldable pub posted : ℕ → List Post → (ℕ → ℕ → List Message) → ℕ → ℕ → List Message
posted j posts channel x y = elim (eqb x j) [ true ↦ channel x y ++ sent_to y posts | false ↦ channel x y ]

unfoldable pub with_step : Network → ℕ → Step → Network
with_step w j t =
    with_verdict
    (with_agents (with_channels w (posted j t.sent w.channel)) (at w.agents j t.agent))
    (w.unsolvable || t.unsolvable)

-- the channel from i to j with these messages left on it
unfoldable pub with_channel : Network → ℕ → ℕ → List Message → Network
with_channel w i j left = with_channels w (at w.channel i (at (w.channel i) j left))

-- agent j's step on the message m from i
unfoldable pub step_on : Network → ℕ → ℕ → Message → Step
step_on w i j m = receive (self_of w.rule w.problem j) (bans_of w.problem j) (w.agents j) i m

-- m taken off the channel from i to j, which is left with the others, and handed to j
unfoldable pub handed : Network → ℕ → ℕ → Message → List Message → Network
handed w i j m others = with_step (with_channel w i j others) j (step_on w i j m)

-- ---- the start

-- agent i's first step: linked agents above are listened to, linked agents below informed
unfoldable pub begun : ℕ → Problem → ℕ → Step
begun rule p i = begin (self_of rule p i) (bans_of p i) (λ k. linked p k i) (λ k. linked p i k)

unfoldable pub start_agent : ℕ → Problem → ℕ → Agent
start_agent rule p i = elim (within p.count i) [ true ↦ (begun rule p i).agent | false ↦ unused_agent ]

unfoldable pub start_channel : ℕ → Problem → ℕ → ℕ → List Message
start_channel rule p i j = elim (within p.count i) [ true ↦ sent_to j (begun rule p i).sent | false ↦ [] ]

unfoldable pub start : ℕ → Problem → Network
start rule p =
    record {
      problem = p;
      rule = rule;
      unsolvable = not (all_to p.count (λ i. not (begun rule p i).unsolvable));
      agents = start_agent rule p;
      channel = start_channel rule p;
    }

-- "a rule, 1 or 2"
unfoldable pub is_rule : ℕ → Bool
is_rule rule = within 2 rule

-- "a rule other than 1 or 2"
unfoldable pub bad_rule : ℕ
bad_rule = 11

-- the start for a rule and a sheet, and the number that it answers
pub record Started : Type 0 where
  pub number : ℕ
  pub network : Network

unfoldable pub started_on : ℕ → Decoded → Started
started_on rule (Valid p) = record { number = 0; network = start rule p }
started_on rule (Invalid f) = record { number = fault_number f; network = empty_network }

-- "The start looks at the rule first", then at the sheet
unfoldable pub start_sheet : ℕ → List ℕ → Started
start_sheet rule sheet =
    elim (is_rule rule) [
      | true ↦ started_on rule (decode sheet)
      | false ↦ record { number = bad_rule; network = empty_network }
    ]
