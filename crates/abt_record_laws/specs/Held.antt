-- What waits on an agent's channels, by the rows of counts.
use Rattle.std.specs.Prelude.{ℕ, ◌+◌, ◌≡◌, Bool, true, false, List, length, leb}
use Rattle.model_base.specs.Finite.{all_to}
use Rattle.model_sheet.specs.Problem.{max_agents}
use Rattle.model_agent.specs.Message.{Post as Post', sent_to}
use Rattle.model_network.specs.Shape.{capacity}
use Rattle.abt_record.specs.Abstract.{is_channel, row_of}

unfoldable pub held_at : List ℕ → ℕ → ℕ → ℕ
held_at counts i j = elim (is_channel i j) [ true ↦ row_of counts i j | false ↦ 0 ]

-- the digits that are no channel's are 0
abbrev pub Clean : List ℕ → Type 0
Clean counts = (i j : ℕ) → row_of counts i j ≡ held_at counts i j

-- a sender that holds so many for each receiver has room for these too: no channel comes to hold more than eight
unfoldable pub row_fits : (ℕ → ℕ) → List Post' → Bool
row_fits held posts = all_to max_agents (λ y. leb (held y + length (sent_to y posts)) capacity)
