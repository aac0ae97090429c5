-- Where there is a line, as bounds: between two different agents of 1 to 12.
use Rattle.std.proofs.Common.{◌≡◌, sym, ◌∙◌, ◌≢◌, false, ℕ, ◌≤◌, ne_eqb}
use mathlib.Core.Bool.{false≢true}
use Rattle.model_base.proofs.Tests.{to-within}
use Rattle.model_sheet.specs.Problem.{max_agents}
use Rattle.model_network.specs.Lines.{is_channel}

pub is-a-line : (i j : ℕ) → 1 ≤ i → i ≤ max_agents → 1 ≤ j → j ≤ max_agents → i ≢ j → is_channel i j ≡ false → ⊥
unfolding is_channel
is-a-line i j li hi lj hj apart none =
    false≢true (sym none ∙ rw (to-within max_agents i li hi, to-within max_agents j lj hj, ne_eqb i j apart))
