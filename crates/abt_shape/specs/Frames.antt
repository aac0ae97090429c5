-- What a frame has of a network.
use Rattle.std.specs.Prelude.{ℕ, ◌≡◌}
use Rattle.model_network.specs.Network.{Network as Network'}
use Rattle.abt_shape.specs.Parts.{Domains, set_of}
use Rattle.abt_shape.specs.declared.frames.Frame.{Frame}

-- w's n, its verdict, its domains as digits, and whom its agents inform are f's: what the clauses on an agent go by
pub record AgentFraming (w : Network') (f : Frame) : Type 0 where
  pub count-is : w.problem.count ≡ f.count
  pub verdict-is : w.unsolvable ≡ f.unsolvable
  pub owned : Domains w.problem f.domains
  pub informs : (k j : ℕ) → (w.agents k).informs j ≡ set_of f.informs k j

-- its domains as digits, and whom its agents listen to: what the clauses on a message go by
pub record MessageFraming (w : Network') (f : Frame) : Type 0 where
  pub owned : Domains w.problem f.domains
  pub listens : (k j : ℕ) → (w.agents k).listens j ≡ set_of f.listens k j

-- both
pub record Framing (w : Network') (f : Frame) : Type 0 where
  pub agents : AgentFraming w f
  pub messages : MessageFraming w f
