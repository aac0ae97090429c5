-- The lines one behind the other are the season's text.
use Rattle.std.proofs.Common.{◌≡◌, refl, ◌∙◌, Bool, true, false, List, ℕ, arith}
use Rattle.std.specs.Int.{from_bool}
use Rattle.model_network.specs.Run.{one_if}
use Rattle.model_base.specs.Decimal.{Appends}
use Rattle.model_season.specs.Stream.{Season}
use Rattle.season_text.specs.Text.{season_text, Prints}

pub one-if : (b : Bool) → from_bool b ≡ one_if b
unfolding one_if
one-if true = refl
one-if false = refl

-- text that stands in a buffer from its first byte on is what is printed
pub prints : (s : Season) {old new : List ℕ} {n : ℕ} → Appends old 0 (season_text s) new n → Prints s new n
prints s A = record { count = A.count ∙ omega arith; text = A.text }
