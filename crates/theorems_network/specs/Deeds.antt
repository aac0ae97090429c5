-- One agent in a list of calls: what it is handed, and what it sends. docs/RULES.md, 'Two tenants on one rail' and 'Figures on every scanner'.
use Rattle.std.specs.Prelude.{ℕ, true, false, ◌&&◌, List, [], ◌∷◌, ◌++◌, eqb}
use Rattle.model_agent.specs.Message.{Message, Post}
use Rattle.model_network.specs.Network.{Network}
use Rattle.model_network.specs.Delivery.{is_accepted}
use Rattle.model_network.specs.Run.{Line}
use Rattle.theorems_network.specs.Calls.{Call, tried_by_all, attempt_of}

-- a message that was handed over, and its sender
pub record Handed : Type 0 where
  pub from : ℕ
  pub message : Message

-- the head of a line from agent i
unfoldable pub head_from : ℕ → List Message → List Handed
head_from i [] = []
head_from i (m ∷ ms) = record { from = i; message = m } ∷ []

-- what one try hands to agent j: the head of its line, if j is the receiver and the delivery is accepted
unfoldable pub handed_now : ℕ → Line → Network → List Handed
handed_now j l w =
    elim (eqb j l.to && is_accepted (attempt_of l w).answer)
    [ true ↦ head_from l.from (w.channel l.from l.to) | false ↦ [] ]

-- .. what a list of tries hands to it, with the senders and in order
unfoldable pub handed_to : ℕ → List Line → Network → List Handed
handed_to j [] w = []
handed_to j (l ∷ ls) w = handed_now j l w ++ handed_to j ls (attempt_of l w).network

-- what it sends
unfoldable pub posts_now : ℕ → Line → Network → List Post
posts_now j l w = elim (eqb j l.to) [ true ↦ (attempt_of l w).sent | false ↦ [] ]

unfoldable pub posts_by : ℕ → List Line → Network → List Post
posts_by j [] w = []
posts_by j (l ∷ ls) w = posts_now j l w ++ posts_by j ls (attempt_of l w).network

-- .. by a list of calls: deliveries and runs, rejected ones too
unfoldable pub handed_in : ℕ → List Call → Network → List Handed
handed_in j calls w = handed_to j (tried_by_all calls w) w

unfoldable pub posts_in : ℕ → List Call → Network → List Post
posts_in j calls w = posts_by j (tried_by_all calls w) w
