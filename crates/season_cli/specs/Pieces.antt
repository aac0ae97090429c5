-- A stream read piece by piece from an input.
use Rattle.std.specs.Prelude.{ℕ, ◌%◌, ◌≡◌, Bool, true, false, not, ◌&&◌, Option, None, Some, List, [], eqb, length}
use Rattle.model_season.specs.Stream.{most_sheets, split, season}
use Rattle.season_figures.specs.declared.stream.Season.{Season}
use Rattle.season_figures.specs.Pieces.{said, is_over, season_of, Steps}
use Rattle.support_cli.specs.Streams.{InputState, OutputState, Takes, Puts}
use Rattle.season_cli.specs.Answers.{told, progress_line}
use Rattle.season_cli.specs.Behaving.{ReadsStream}

-- at most n bytes are taken for the sheet behind these bytes of a length
pub record TakesSheet (n : ℕ) (head : List ℕ) (given given' : InputState) (s r : Season) : Type 0 where
  pub sheet : List ℕ
  pub takes : Takes n sheet given given'
  pub steps : Steps s head sheet r

-- as many as the length says; nothing where the length breaks off
abbrev pub TakesBehind : Option ℕ → List ℕ → InputState → InputState → Season → Season → Type 0
TakesBehind None head given given' s r = (given' ≡ given) × Steps s head [] r
TakesBehind (Some n) head given given' s r = TakesSheet n head given given' s r

-- two bytes are taken for a length, then the sheet
pub record TakesPiece (given given' : InputState) (s r : Season) : Type 0 where
  pub head : List ℕ
  pub between : InputState
  pub takes : Takes 2 head given between
  pub behind : TakesBehind (said head) head between given' s r

-- a line is to be said behind a piece
unfoldable pub due : Bool → Season → Bool
due tells s = tells && (not (is_over s.reading) && eqb (s.figures.sheets % 1000) 0)

unfoldable pub progress_behind : Bool → Season → List ℕ
progress_behind tells s = elim (due tells s) [ true ↦ progress_line s.figures.sheets | false ↦ [] ]

-- a stream was read, and progress was told where it is to be
pub record StreamRead (tells : Bool) (given given' : InputState) (err err' : OutputState) (s : Season) : Type 0 where
  pub input : List ℕ
  pub reads : ReadsStream input given given'
  pub figures : season_of s ≡ season input
  pub says : Puts (told tells (length (split most_sheets input).sheets)) err err'
