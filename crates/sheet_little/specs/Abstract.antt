-- What the code's values mean. A primed name is the definitions'.
use Rattle.std.specs.Prelude.{ℕ, ◌≡◌, List, ◌∷◌, length, get_or, replicate}
use Rattle.model_sheet.specs.Problem.{Problem, no_bans}
use Rattle.model_little.specs.Little.{Choice as Choice'}
use Rattle.sheet_little.specs.declared.choice.Counts.{Counts}
use Rattle.sheet_little.specs.declared.choice.Choice.{Choice}

-- these slot counts
pub record Holds (c : Counts) (ds : List ℕ) : Type 0 where
  pub agents : c.agents ≡ length ds
  pub first : c.first ≡ get_or ds 0 0
  pub second : c.second ≡ get_or ds 1 0
  pub third : c.third ≡ get_or ds 2 0

pub record Means (c : Choice) (d : Choice') : Type 0 where
  pub counts : Holds c.counts d.counts
  pub bans : c.bans ≡ d.bans

-- the problem of these slot counts, with no ban
unfoldable pub bare_of : Counts → Problem
bare_of c =
    record { count = c.agents; domains = c.first ∷ c.second ∷ c.third ∷ replicate 9 0; bans = no_bans }
