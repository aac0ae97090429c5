-- What is read of a stream is what the claims about streams say: the same sheets in another order give the same figures, and whole sheets are read as they stand.
-- Both follow from the season that the definition reads.
use Rattle.std.proofs.Common.{◌≡◌, ◌<◌, ℕ, List, length, false, ap, ◌∙◌, ltb}
use Rattle.model_season.specs.Season.{figures_of as figures_of'}
use Rattle.model_season.specs.Stream.{most_sheets, is_whole, split, Season as Season', season_from, season}
use Rattle.model_season.specs.Claims.{Reordered, stream_of, AllFit}
use Rattle.model_season.proofs.Theorems.{streams-in-any-order, reads-stream}
use Rattle.season_figures.specs.declared.stream.Season.{Season}
use Rattle.season_figures.specs.Abstract.{figures_of}
use Rattle.season_figures.specs.Pieces.{season_of}

pub in-any-order : (stream : List ℕ) (r : Season) → season_of r ≡ season stream → (other : List ℕ)
    → Reordered (split most_sheets stream).sheets (split most_sheets other).sheets → figures_of r.figures ≡ figures_of' (split most_sheets other).sheets
unfolding season_of season season_from
in-any-order stream r e other R = ap (λ (x : Season'). x.figures) e ∙ streams-in-any-order most_sheets stream other R

pub whole-sheets : (stream : List ℕ) (r : Season) → season_of r ≡ season stream → (sheets : List (List ℕ)) (rest : List ℕ) → AllFit sheets
    → length sheets < most_sheets → is_whole rest ≡ false → stream ≡ stream_of sheets rest
    → season_of r ≡ season_from (record { sheets = sheets; cut = ltb 0 (length rest) })
unfolding season
whole-sheets stream r e sheets rest fit few broken s = e ∙ ap season s ∙ ap season_from (reads-stream sheets fit most_sheets few rest broken)
