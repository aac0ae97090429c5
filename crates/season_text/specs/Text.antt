-- What `season` prints, as bytes in ASCII: eight lines. docs/PROGRAMS.md, 'A season's figures'.
use Rattle.std.specs.Prelude.{ℕ, ◌≡◌, List, [], ◌∷◌, ◌++◌, length, take, None, Option, Some}
use Rattle.model_network.specs.Run.{one_if}
use Rattle.model_base.specs.Decimal.{decimal, newline, line_of}
use Rattle.model_season.specs.Season.{Rounds}
use Rattle.model_season.specs.Stream.{Season}

-- ---- the words

-- "sheets "
unfoldable pub sheets : List ℕ
sheets = 115 ∷ 104 ∷ 101 ∷ 101 ∷ 116 ∷ 115 ∷ 32 ∷ []

-- "refused "
unfoldable pub refused : List ℕ
refused = 114 ∷ 101 ∷ 102 ∷ 117 ∷ 115 ∷ 101 ∷ 100 ∷ 32 ∷ []

-- "words "
unfoldable pub words : List ℕ
words = 119 ∷ 111 ∷ 114 ∷ 100 ∷ 115 ∷ 32 ∷ []

-- "cut "
unfoldable pub cut : List ℕ
cut = 99 ∷ 117 ∷ 116 ∷ 32 ∷ []

-- "fewest "
unfoldable pub fewest : List ℕ
fewest = 102 ∷ 101 ∷ 119 ∷ 101 ∷ 115 ∷ 116 ∷ 32 ∷ []

-- "most "
unfoldable pub most : List ℕ
most = 109 ∷ 111 ∷ 115 ∷ 116 ∷ 32 ∷ []

-- "sum "
unfoldable pub sum : List ℕ
sum = 115 ∷ 117 ∷ 109 ∷ 32 ∷ []

-- "mean "
unfoldable pub mean : List ℕ
mean = 109 ∷ 101 ∷ 97 ∷ 110 ∷ 32 ∷ []

-- " "
unfoldable pub blank : List ℕ
blank = 32 ∷ []

-- "/"
unfoldable pub over : List ℕ
over = 47 ∷ []

-- "-"
unfoldable pub dash : List ℕ
dash = 45 ∷ []

-- ---- the lines

-- a word or a blank, and a number
unfoldable pub figure : List ℕ → ℕ → List ℕ
figure before n = before ++ decimal n

-- "by number 1 to 4"; "`none`, `plan`, `jammed`, `open`"
unfoldable pub four_line : List ℕ → (ℕ → ℕ) → List ℕ
four_line before f = figure before (f 1) ++ (figure blank (f 2) ++ (figure blank (f 3) ++ line_of blank (f 4)))

-- "with none to count each shows `-` for its figure"
unfoldable pub dash_line : List ℕ → List ℕ
dash_line before = before ++ (dash ++ newline)

-- "the mean as sum over count, not reduced"
unfoldable pub mean_line : Rounds → List ℕ
mean_line r = figure mean r.sum ++ line_of over r.count

unfoldable pub rounds_lines : Option Rounds → List ℕ
rounds_lines None = dash_line fewest ++ (dash_line most ++ (dash_line sum ++ dash_line mean))
rounds_lines (Some r) = line_of fewest r.fewest ++ (line_of most r.most ++ (line_of sum r.sum ++ mean_line r))

unfoldable pub season_text : Season → List ℕ
season_text s =
    line_of sheets s.figures.sheets
    ++ (four_line refused s.figures.refused
    ++ (four_line words s.figures.words
    ++ (line_of cut (one_if s.cut) ++ rounds_lines s.figures.rounds)))

-- the first n bytes of a buffer are the season's text
pub record Prints (s : Season) (buffer : List ℕ) (n : ℕ) : Type 0 where
  pub count : n ≡ length (season_text s)
  pub text : take n buffer ≡ season_text s
