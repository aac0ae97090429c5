-- A stream of sheets, "each behind its length in two bytes, low byte first". docs/FORMATS.md, 'A stream of sheets', and docs/PROGRAMS.md, 'A season's figures'.
use Rattle.std.specs.Prelude.{ℕ, zero, suc, ◌+◌, Bool, true, false, List, [], ◌∷◌, ltb, leb, length, take, drop}
use Rattle.model_sheet.specs.Sheet.{word_from}
use Rattle.model_season.specs.Season.{Figures, figures_of}

-- "At most 1,000,000 sheets are read, and nothing after them."
unfoldable pub most_sheets : ℕ
most_sheets = 1000000

pub record Stream : Type 0 where
  pub sheets : List (List ℕ)  -- the whole ones
  pub cut : Bool  -- something stands behind them, and breaks off

unfoldable pub ended : Bool → Stream
ended cut = record { sheets = []; cut = cut }

unfoldable pub behind : List ℕ → Stream → Stream
behind sheet s = record { sheets = sheet ∷ s.sheets; cut = s.cut }

unfoldable pub length_bytes : ℕ
length_bytes = 2

-- the length that stands first
unfoldable pub length_in : List ℕ → ℕ
length_in bytes = word_from bytes 0

-- a length, and as many bytes as it says
unfoldable pub is_whole : List ℕ → Bool
is_whole bytes = leb (length_bytes + length_in bytes) (length bytes)

-- at most so many sheets; "A last sheet or length that breaks off makes `cut` 1 and is in no other figure."
unfoldable pub split : ℕ → List ℕ → Stream
split zero bytes = ended false
split (suc most) bytes =
    elim (is_whole bytes) [
      | true ↦ behind (take (length_in bytes) (drop length_bytes bytes)) (split most (drop (length_bytes + length_in bytes) bytes))
      | false ↦ ended (ltb 0 (length bytes))
    ]

-- a season: its figures, and whether the stream breaks off
pub record Season : Type 0 where
  pub figures : Figures
  pub cut : Bool

unfoldable pub season_from : Stream → Season
season_from s = record { figures = figures_of s.sheets; cut = s.cut }

unfoldable pub season : List ℕ → Season
season bytes = season_from (split most_sheets bytes)
