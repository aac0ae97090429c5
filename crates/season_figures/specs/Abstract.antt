-- What the code's figures mean. A primed name is the definitions'.
use Rattle.std.specs.Prelude.{ℕ, suc, ◌<◌, ◌≡◌, Option, None, Some, List, [], ◌∷◌, ◌++◌, length, get_or}
use Rattle.model_season.specs.Season.{Rounds as Rounds', Figures as Figures', one_more, outcome, with_outcome, figures_of as figures_of'}
use Rattle.model_season.specs.Capped.{capped}
use Rattle.model_season.specs.Stream.{most_sheets}
use Rattle.season_figures.specs.declared.figures.Rounds.{Rounds}
use Rattle.season_figures.specs.declared.figures.Figures.{Figures}

-- kinds are counted from 1; there is none of any other
unfoldable pub kinds : List ℕ → ℕ → ℕ
kinds four k = get_or (0 ∷ four) k 0

unfoldable pub rounds_from : Rounds → Rounds'
rounds_from r = record { count = r.count; fewest = r.fewest; most = r.most; sum = r.sum }

-- none where no sheet is counted
unfoldable pub rounds_of : Option Rounds → Option Rounds'
rounds_of None = None
rounds_of (Some r) = Some (rounds_from r)

unfoldable pub figures_of : Figures → Figures'
figures_of f = record { sheets = f.sheets; refused = kinds f.refused; words = kinds f.words; rounds = rounds_of f.rounds }

-- with one more that ended in the word of place k, and these rounds
unfoldable pub with_word : Figures' → ℕ → Option Rounds' → Figures'
with_word f k r = record { sheets = suc f.sheets; refused = f.refused; words = one_more f.words k; rounds = r }

-- the figures of any list of fewer than 1,000,000 sheets become those of the list with that sheet more
abbrev pub AddsSheet : Figures → List ℕ → Figures → Type 0
AddsSheet f sheet r =
    (sheets : List (List ℕ)) → length sheets < most_sheets → figures_of f ≡ figures_of' sheets → figures_of r ≡ figures_of' (sheets ++ (sheet ∷ []))

-- one sheet more, by the definition, each count capped at the greatest number of 64 bits
abbrev pub CountsSheet : Figures → List ℕ → Figures → Type 0
CountsSheet f sheet r = figures_of r ≡ capped (with_outcome (outcome sheet) (figures_of f))
