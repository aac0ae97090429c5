-- What bans and a view bar, as the code holds it: an agent's number and domain, the words of the bans that name it, and a byte for each agent above.
use Rattle.std.specs.Prelude.{ℕ, pred, ◌*◌, ◌-◌, ◌/◌, ◌%◌, ◌^◌, ◌≤◌, ◌<◌, ◌≡◌, true, false, ◌&&◌, List, leb, length, get_or}
use Rattle.model_base.specs.Finite.{within}
use Rattle.model_base.specs.Bits.{bit}
use Rattle.model_sheet.specs.Problem.{max_domain, bit_at}
use Rattle.model_agent.specs.Message.{Assignment}
use Rattle.model_agent.specs.Agent.{Self, Bans}
use Rattle.model_agent.specs.Choosing.{bars}
use Rattle.model_agent.specs.Shape.{max_named, EachNamed}
use Rattle.abt_choosing.specs.declared.Conflicts.{Conflicts}
use Rattle.abt_choosing.specs.declared.AgentConfig.{AgentConfig}

-- ---- an agent

unfoldable pub self_of : AgentConfig → Self
self_of o = record { number = o.number; domain = o.domain; rule = o.rule }

-- one of at most twelve agents, with at most eight values
pub record ConfigFits (own : AgentConfig) : Type 0 where
  pub first : 1 ≤ own.number
  pub last : own.number ≤ 12
  pub some : 1 ≤ own.domain
  pub few : own.domain ≤ 8

-- .. and a word of bans for each agent above
pub record Able (own : AgentConfig) (words : List ℕ) : Type 0 where
  pub fits : ConfigFits own
  pub bans : length words ≡ own.number - 1

-- a view names agents above, at values that a word of bans has room for
abbrev pub ViewFits : AgentConfig → Assignment → Type 0
ViewFits own view = EachNamed view (λ k v. (k < own.number) × (v ≤ max_domain))

-- ---- bans

-- the bans that name an agent: a word for each agent above it, bit 8 * (its value - 1) + own value - 1
unfoldable pub bans_in : List ℕ → Bans
bans_in words k v w =
    within (length words) k && within max_domain v && within max_domain w && bit (get_or words (pred k) 0) (bit_at v w)

-- the own values that an agent with this word of bans bars at value v: one byte of the word
unfoldable pub conflicts_at : ℕ → ℕ → ℕ
conflicts_at word v = word / 2 ^ (8 * (v - 1)) % 256

-- ---- what is barred

-- byte i of a word, from 0
unfoldable pub byte : ℕ → ℕ → ℕ
byte x i = x / 256 ^ i % 256

-- the byte of agent k
unfoldable pub byte_of : Conflicts → ℕ → ℕ
byte_of b k = elim (leb k 8) [ true ↦ byte b.low (pred k) | false ↦ byte b.high (k - 9) ]

-- what the bans and a view bar: bit w - 1 of agent k's byte says whether its value in the view bans own value w
abbrev pub ConflictsOf : Bans → Assignment → Conflicts → Type 0
ConflictsOf bans view b =
    (k w : ℕ) → 1 ≤ k → k ≤ max_named → 1 ≤ w → w ≤ max_domain → bit (byte_of b k) (pred w) ≡ bars bans view w k
