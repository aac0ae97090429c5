-- The claims. Each is proved elsewhere against the type that stands here: of any two networks, forged ones too, with another n, other bans, records
-- and lines elsewhere; and for both readings of the bans that must be alike, all that name the agent (`Naming`) or those with agents above it
-- (`NamingAbove`), which is less to ask.
use Rattle.std.specs.Prelude.{ℕ, ◌≡◌, List, ◌∷◌}
use Rattle.model_agent.specs.Message.{Message}
use Rattle.model_network.specs.Network.{Network}
use Rattle.model_network.specs.Delivery.{deliver}
use Rattle.theorems_network.specs.Calls.{Call, left_by_all}
use Rattle.theorems_network.specs.Deeds.{handed_in, posts_in}
use Rattle.theorems_isolation.specs.Tenants.{Alike, SameRest}

-- "it ends with the same record on both and has sent the same, in the same order"
pub record SameDeeds (j : ℕ) (w v : Network) (calls others : List Call) : Type 0 where
  pub agent : (left_by_all calls w).agents j ≡ (left_by_all others v).agents j
  pub sent : posts_in j calls w ≡ posts_in j others v

-- Two networks alike in agent j, and a list of calls on each. Where both lists hand j the same messages, from the same senders in the same order, j
-- ends with the same record and has sent the same.
abbrev pub ActsAlike : (ℕ → ℕ → ℕ → Type 0) → Type 0
ActsAlike Names =
    (j : ℕ) (w v : Network) → Alike Names j w v → (calls others : List Call) → handed_in j calls w ≡ handed_in j others v
    → SameDeeds j w v calls others

-- Two networks alike in agent j, with the same message next on the line from i to j. Where they agree in their shape being good, in their verdict
-- and in the room on j's lines, the delivery is answered the same: accepted on both, or rejected with the same number.
abbrev pub AnsweredAlike : (ℕ → ℕ → ℕ → Type 0) → Type 0
AnsweredAlike Names =
    (j : ℕ) (w v : Network) → Alike Names j w v → SameRest j w v → (i : ℕ) (m : Message) (after later : List Message)
    → w.channel i j ≡ m ∷ after → v.channel i j ≡ m ∷ later → (deliver w i j).answer ≡ (deliver v i j).answer
