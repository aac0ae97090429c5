-- Two networks (rails) as one agent can tell them apart: what they have alike, and what else decides whether a delivery to it is accepted.
-- docs/RULES.md, 'Two tenants on one rail'.
use Rattle.std.specs.Prelude.{ℕ, ◌-◌, ◌≤◌, ◌≡◌, ◌⊎◌, length}
use Rattle.model_sheet.specs.Problem.{max_agents, domain, banned}
use Rattle.model_network.specs.Network.{Network}
use Rattle.model_network.specs.Shape.{capacity, in_shape}

-- ---- alike in one agent

-- "the bans that name it": of lower agent i and higher agent k, where j is one of the two
abbrev pub Naming : ℕ → ℕ → ℕ → Type 0
Naming j i k = (i ≡ j) ⊎ (k ≡ j)

-- .. and of these the ones with an agent above j: its rules read no others
abbrev pub NamingAbove : ℕ → ℕ → ℕ → Type 0
NamingAbove j i k = k ≡ j

-- "alike in one scanner: its own record, its slot count and the bans that name it", and of one rule
pub record Alike (Names : ℕ → ℕ → ℕ → Type 0) (j : ℕ) (w v : Network) : Type 0 where
  pub rule : w.rule ≡ v.rule
  pub agent : w.agents j ≡ v.agents j
  pub domain : domain w.problem j ≡ domain v.problem j
  pub bans : (i k x y : ℕ) → Names j i k → banned w.problem i k x y ≡ banned v.problem i k x y

-- ---- what else decides

-- how many more messages the line from agent j to agent y takes
unfoldable pub room_on : Network → ℕ → ℕ → ℕ
room_on w j y = capacity - length (w.channel j y)

-- "three things: the shape of the rail, a verdict, and room on the receiver's outgoing lines"
pub record SameRest (j : ℕ) (w v : Network) : Type 0 where
  pub shape : in_shape w ≡ in_shape v
  pub unsolvable : w.unsolvable ≡ v.unsolvable
  pub room : (y : ℕ) → 1 ≤ y → y ≤ max_agents → room_on w j y ≡ room_on v j y
