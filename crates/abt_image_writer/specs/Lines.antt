-- The 132 lines by number, from 0: by sender, then receiver. A primed name is the definitions'.
use Rattle.std.specs.Prelude.{ℕ, ◌+◌, ◌-◌, ◌/◌, ◌%◌, cond, List, [], ◌∷◌, leb}
use Rattle.model_base.specs.Finite.{gather}
use Rattle.model_agent.specs.Message.{Message as Message'}
use Rattle.model_network.specs.Network.{Network as Network'}

unfoldable pub sender_of : ℕ → ℕ
sender_of line = 1 + line / 11

-- the sender is passed over
unfoldable pub receiver_of : ℕ → ℕ
receiver_of line = 1 + line % 11 + cond (leb (sender_of line) (1 + line % 11)) 1 0

unfoldable pub line_at : Network' → ℕ → List Message'
line_at w line = w.channel (sender_of line) (receiver_of line)

-- the lines from one on
unfoldable pub lines_from : Network' → ℕ → List (List Message')
lines_from w line = gather (132 - line) line (λ k. line_at w k ∷ [])
