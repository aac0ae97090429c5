-- What the figures tell of the sheets: what is counted under `none` and `plan` is so, and what a sheet adds to the sum is within the bound.
use Rattle.std.specs.Prelude.{ℕ, ◌+◌, ◌≤◌, ◌<◌, ◌≡◌, List, ◌++◌, length}
use Rattle.model_base.specs.Lists.{All}
use Rattle.model_sheet.specs.Problem.{Problem, Obeys}
use Rattle.model_sheet.specs.Sheet.{Valid, decode}
use Rattle.model_network.specs.Network.{start_sheet}
use Rattle.model_network.specs.Run.{Ending, run}
use Rattle.theorems_network.specs.Claims.{most_rounds, slots_of, Tells}
use Rattle.model_season.specs.Season.{season_rule, season_rounds, Ended, outcome}
use Rattle.model_season.specs.Claims.{sum_in, Reordered}
use Rattle.season_figures.specs.declared.figures.Figures.{Figures}
use Rattle.season_figures.specs.Abstract.{kinds, rounds_of}

-- the slots that the season's run on the sheet leaves
unfoldable pub slots_left : List ℕ → ℕ → ℕ
slots_left sheet = slots_of (run season_rounds (start_sheet season_rule sheet).network).network

-- ---- one sheet

-- A sheet that ends with a word is of a problem, and the word, the rounds and the slots left tell of that.
abbrev pub OutcomeTells : List ℕ → Type 0
OutcomeTells sheet =
    (e : Ending) (n : ℕ) → outcome sheet ≡ Ended e n → (p : Problem) × (decode sheet ≡ Valid p) × Tells p 0 e n (slots_left sheet)

-- the slots that the run leaves obey every ban of the sheet
abbrev pub Planned : List ℕ → Type 0
Planned sheet = (p : Problem) × (decode sheet ≡ Valid p) × Obeys p (slots_left sheet)

-- no choice of slots obeys every ban of the sheet
abbrev pub Hopeless : List ℕ → Type 0
Hopeless sheet = (p : Problem) × (decode sheet ≡ Valid p) × ((σ : ℕ → ℕ) → Obeys p σ → ⊥)

-- What one sheet more tells: a count that has grown says so of the sheet, and the sum has grown by no more rounds than the bound of its problem.
pub record CountTells (f : Figures) (sheet : List ℕ) (r : Figures) : Type 0 where
  pub none : kinds f.words 1 < kinds r.words 1 → Hopeless sheet
  pub plan : kinds f.words 2 < kinds r.words 2 → Planned sheet
  pub sum : (p : Problem) → decode sheet ≡ Valid p → sum_in (rounds_of r.rounds) ≤ sum_in (rounds_of f.rounds) + most_rounds p

-- ---- a list of sheets

-- so many of them, and this holds of each
pub record SoMany (P : List ℕ → Type 0) (count : ℕ) (sheets : List (List ℕ)) : Type 0 where
  pub those : List (List ℕ)
  pub others : List (List ℕ)
  pub parts : Reordered sheets (those ++ others)
  pub number : length those ≡ count
  pub each : All P those

-- as many as are counted under a word are as it says
pub record CountsTell (sheets : List (List ℕ)) (f : Figures) : Type 0 where
  pub none : SoMany Hopeless (kinds f.words 1) sheets
  pub plan : SoMany Planned (kinds f.words 2) sheets
