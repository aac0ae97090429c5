-- The numbers of a record of the code fit their types, and its arrays have their lengths: what every function is handed with such a record.
-- An array's elements are looked at one by one; of each one `search` finds what its type says.
use Rattle.std.proofs.Common.{ℕ, ◌^◌, ◌<◌, ◌≡◌, List, [], ◌∷◌, length, get_or, w8, w16, w64, Fits, rules}
use base.Fml.{Fml}
use mir.Val.{Val}
use denote.Array.{each}
use denote.Shadow.{shadow}
use Rattle.model_base.specs.Lists.{All}
use Rattle.abt_agent.specs.contracts.Agent as agent
use Rattle.abt_agent.specs.declared.Agent.{Agent}
use Rattle.abt_agent.specs.declared.Message.{Message}
use Rattle.abt_agent.specs.declared.Message.TheVariants.{Info, Back, AddLink}
use Rattle.abt_record.specs.contracts.Place as place
use Rattle.abt_record.specs.contracts.Network as network
use Rattle.abt_record.specs.declared.Network.{Network}

pub record AgentFits (a : Agent) : Type 0 where
  pub nogood_mask : a.nogood_mask < 2 ^ 8
  pub listens : a.listens < 2 ^ 16
  pub informs : a.informs < 2 ^ 16
  pub view : a.view.digits < 2 ^ 64
  pub nogoods : (v : ℕ) → get_or a.nogoods v 0 < 2 ^ 64

abbrev pub MessageFits : Message → Type 0
MessageFits (Info v) = Unit {0}
MessageFits (Back v p) = (p.low < 2 ^ 16) × (p.middle < 2 ^ 16) × (p.high < 2 ^ 16)
MessageFits AddLink = Unit {0}

pub record NetworkFits (r : Network) : Type 0 where
  pub long : length r.agents ≡ 12
  pub agents : All AgentFits r.agents
  pub places : All (λ p. MessageFits p.message) r.places

-- ---- elements

each_fits : {X : Type 0} (f : X → List Val → Fml) (P : X → Type 0) → ((x : X) (u : Val) → shadow (f x (u ∷ [])) → P x)
    → (xs : List X) (us : List Val) → shadow (each X f xs us) → All P xs
each_fits f P h [] us s = tt
each_fits f P h (x ∷ xs) [] s = absurd s
each_fits f P h (x ∷ xs) (u ∷ us) s = (h x u s.0, each_fits f P h xs us s.1)

agent-fits : (a : Agent) (u : Val) → shadow ((agent.the_row).own_val a (u ∷ [])) → AgentFits a
agent-fits a u s =
    let nogood_mask : Fits w8 a.nogood_mask = search rules in
    let listens : Fits w16 a.listens = search rules in
    let informs : Fits w16 a.informs = search rules in
    let view : Fits w64 a.view.digits = search rules in
    let nogoods : (v : ℕ) → Fits w64 (get_or a.nogoods v 0) = λ v. search rules in
    record { nogood_mask = nogood_mask.fits; listens = listens.fits; informs = informs.fits; view = view.fits; nogoods = λ v. (nogoods v).fits }

message-fits : (m : Message) (u : Val) → shadow ((place.the_row).own_val (record { message = m }) (u ∷ [])) → MessageFits m
message-fits (Info v) u s = tt
message-fits (Back v p) u s =
    let low : Fits w16 p.low = search rules in
    let middle : Fits w16 p.middle = search rules in
    let high : Fits w16 p.high = search rules in
    (low.fits, middle.fits, high.fits)
message-fits AddLink u s = tt

-- ---- the whole

pub network-fits : (r : Network) (vs : List Val) → shadow ((network.the_field).row.own_val ((network.the_type).to r) vs) → NetworkFits r
network-fits r vs s =
    record {
      long = s.1.1.1.1.1.1.1.0.1.0.1;
      agents = each_fits (agent.the_row).own_val AgentFits agent-fits r.agents _ s.1.1.1.1.1.1.1.0.1.1;
      places = each_fits (place.the_row).own_val (λ p. MessageFits p.message) (λ p. message-fits p.message) r.places _ s.1.1.1.1.1.1.1.1.1.1.0.1.1;
    }
