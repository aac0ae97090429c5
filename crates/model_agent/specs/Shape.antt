-- The shape of one agent's record and of a message that waits for it: docs/RULES.md's shape, as far as one agent can see it. A record has room
-- to name the agents 1 to 16.
use Rattle.std.specs.Prelude.{ℕ, ◌≤◌, ◌<◌, ◌≡◌, Bool, true, Some}
use Rattle.model_base.specs.Finite.{within}
use Rattle.model_sheet.specs.Problem.{max_agents, max_domain}
use Rattle.model_agent.specs.Message.{Assignment, known, Message, Info, Back, AddLink}
use Rattle.model_agent.specs.Agent.{Self, Agent}

unfoldable pub max_named : ℕ
max_named = 16

-- every agent of 1 to 16 that the assignment names, with its value
abbrev pub EachNamed : Assignment → (ℕ → ℕ → Type 0) → Type 0
EachNamed l P = (k : ℕ) → 1 ≤ k → k ≤ max_named → known (l k) ≡ true → P k (l k)

-- every agent of 1 to 16 in the set
abbrev pub EachIn : (ℕ → Bool) → (ℕ → Type 0) → Type 0
EachIn f P = (k : ℕ) → 1 ≤ k → k ≤ max_named → f k ≡ true → P k

-- `owns k v`: agent k owns value v
pub record RecordFits (owns : ℕ → ℕ → Bool) (s : Self) (a : Agent) : Type 0 where
  pub valued : within s.domain a.value ≡ true
  pub kept : a.last ≡ a.value
  pub upward : EachIn a.listens (λ k. k < s.number)
  pub downward : EachIn a.informs (λ k. (s.number < k) × (k ≤ max_agents))
  pub viewed : EachNamed a.view (λ k v. (a.listens k ≡ true) × (owns k v ≡ true))
  pub agreed : (v : ℕ) (lhs : Assignment) → 1 ≤ v → v ≤ max_domain → a.nogoods v ≡ Some lhs
      → (v ≤ s.domain) × EachNamed lhs (λ k u. u ≡ a.view k)

abbrev pub MessageFits : (ℕ → ℕ → Bool) → Self → Agent → ℕ → Message → Type 0
MessageFits owns s a from (Info v) = (1 ≤ from) × (a.listens from ≡ true) × (owns from v ≡ true)
MessageFits owns s a from (Back lhs v) =
    (s.number < from) × (from ≤ max_agents) × (within s.domain v ≡ true)
    × EachNamed lhs (λ k u. (k < s.number) × (owns k u ≡ true))
MessageFits owns s a from AddLink = (s.number < from) × (from ≤ max_agents)

-- what an agent can tell of ownership by itself: a value is one of 1 to 8
unfoldable pub any_value : ℕ → ℕ → Bool
any_value k v = within max_domain v
