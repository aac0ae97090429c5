-- One accepted delivery with no verdict, as the network level sees it (`Move`), and the invariant of reached networks (`Invariant`).
use Rattle.std.proofs.Common.{◌≡◌, ◌⊎◌, List, Bool, true, false, ℕ, ◌≤◌, ◌<◌}
use Rattle.model_base.proofs.Lists.{All, Any}
use Rattle.model_sheet.specs.Problem.{Problem, linked, Obeys}
use Rattle.model_agent.specs.Message.{Assignment, known, Message, Info, Back, AddLink}
use Rattle.model_agent.specs.Agent.{Agent, Step}
use Rattle.model_agent.specs.Sorts.{IsAddLink, Refuses, seen}
use Rattle.theorems_agent.specs.Facts.{Excludes, Good, Facts}
use Rattle.model_network.specs.Network.{Network, self_of, bans_of}
use Rattle.model_network.specs.Delivery.{Accepted, Delivery}
use Rattle.model_network.specs.Run.{Line}
use Rattle.theorems_shape.proofs.Handing.{Handing}

-- ---- a move

pub record Move (p : Problem) (d : Line) (w w' : Network) : Type 0 where
  pub message : Message
  pub step : Step
  pub handing : Handing d message step w w'
  pub facts : Facts (Obeys p) (self_of w.rule p d.to) (bans_of p d.to) (w.agents d.to) d.from message step
  pub from_in : (1 ≤ d.from) × (d.from ≤ p.count)
  pub to_in : (1 ≤ d.to) × (d.to ≤ p.count)

-- ---- the invariant

-- a message that waits on the channel from i to j
abbrev pub Waits : Problem → (ℕ → Agent) → ℕ → ℕ → Message → Type 0
Waits p agents i j (Info v) = (agents j).listens i ≡ true
Waits p agents i j (Back lhs v) =
    ((agents i).listens j ≡ true)
    × ((x : ℕ) → known (lhs x) ≡ true → (1 ≤ x) × (x < j))
    × Excludes (Obeys p) j v lhs
Waits p agents i j AddLink = (agents i).listens j ≡ true

-- y's view v of x, x's value u, what waits from x to y and back: once all Infos are in, the view is the value; or it is unknown and a Back that
-- refuses the value waits
abbrev pub UpToDate : ℕ → ℕ → List Message → List Message → Type 0
UpToDate v u there back = (seen v there ≡ u) ⊎ ((seen v there ≡ 0) × Any (Refuses u) back)

-- y listens to x: its link request waits, or x informs it and it is up to date
abbrev pub Linked : Bool → ℕ → ℕ → List Message → List Message → Type 0
Linked informs v u there back = Any IsAddLink back ⊎ ((informs ≡ true) × UpToDate v u there back)

pub record Links (p : Problem) (agents : ℕ → Agent) (channel : ℕ → ℕ → List Message) : Type 0 where
  pub informed : (x y : ℕ) → (agents x).informs y ≡ true → (agents y).listens x ≡ true
  pub lower : (y x : ℕ) → (agents y).listens x ≡ true → (1 ≤ x) × (x < y) × (y ≤ p.count)
  pub linked : (x y : ℕ) → linked p x y ≡ true → (agents y).listens x ≡ true
  pub waiting : (i j : ℕ) → All (Waits p agents i j) (channel i j)
  pub pair : (x y : ℕ) → (agents y).listens x ≡ true
      → Linked ((agents x).informs y) ((agents y).view x) (agents x).value (channel x y) (channel y x)

-- The rule is the network's own, and no move changes it: all that follows from here is of either rule.
pub record Invariant (p : Problem) (w : Network) : Type 0 where
  pub problem : w.problem ≡ p
  pub running : w.unsolvable ≡ false
  pub good : (i : ℕ) → 1 ≤ i → i ≤ p.count → Good (Obeys p) (self_of w.rule p i) (bans_of p i) (w.agents i)
  pub links : Links p w.agents w.channel

-- ---- what a try does, from a network with the invariant

pub data Next (p : Problem) (d : Line) (w : Network) (t : Delivery) : Type 0 where
  stays : t.network ≡ w → (t.answer ≡ Accepted → ⊥) → Next p d w t
  moves : t.answer ≡ Accepted → Move p d w t.network → Invariant p t.network → Next p d w t
  stops : t.answer ≡ Accepted → t.network.unsolvable ≡ true → ((σ : Assignment) → Obeys p σ → ⊥) → Next p d w t
