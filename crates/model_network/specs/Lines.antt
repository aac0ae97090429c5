-- The lines of a network, numbered: "132 lines".
use Rattle.std.specs.Prelude.{ℕ, pred, ◌+◌, ◌*◌, Bool, true, false, not, ◌&&◌, eqb, ltb}
use Rattle.model_base.specs.Finite.{within}
use Rattle.model_sheet.specs.Problem.{max_agents}

-- there is a line from i to j
unfoldable pub is_channel : ℕ → ℕ → Bool
is_channel i j = within max_agents i && within max_agents j && not (eqb i j)

-- its number, from 0: by sender, then receiver
unfoldable pub channel_at : ℕ → ℕ → ℕ
channel_at i j = 11 * pred i + elim (ltb j i) [ true ↦ pred j | false ↦ pred (pred j) ]
