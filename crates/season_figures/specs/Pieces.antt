-- A stream read piece by piece: what one piece does to the figures.
use Rattle.std.specs.Prelude.{ℕ, ◌+◌, ◌≡◌, Bool, true, false, ◌&&◌, Option, None, Some, List, ltb, leb, length, take, drop}
use Rattle.model_season.specs.Stream.{Stream, most_sheets, length_bytes, length_in, is_whole, Season as Season'}
use Rattle.season_figures.specs.declared.stream.Reading.{Reading}
use Rattle.season_figures.specs.declared.stream.Reading.TheVariants.{Going, Ended, Cut}
use Rattle.season_figures.specs.declared.stream.Season.{Season}
use Rattle.season_figures.specs.Abstract.{figures_of, AddsSheet, CountsSheet}
use Rattle.season_figures.specs.Promised.{OutcomeTells, CountTells}

-- what the bytes read for a length say; nothing where they are too few
unfoldable pub said : List ℕ → Option ℕ
said head = elim (ltb (length head) length_bytes) [ true ↦ None | false ↦ Some (length_in head) ]

-- something broke off
abbrev pub cut_of : Reading → Bool
cut_of Going = false
cut_of Ended = false
cut_of Cut = true

abbrev pub is_over : Reading → Bool
is_over Going = false
is_over Ended = true
is_over Cut = true

-- how reading is over, by whether something stands where it ends
abbrev pub over_by : Bool → Reading
over_by true = Cut
over_by false = Ended

unfoldable pub season_of : Season → Season'
season_of s = record { figures = figures_of s.figures; cut = cut_of s.reading }

-- How reading stands behind a stream: something broke off; or it ended behind a whole sheet; or as many sheets are read as may be, and what stands
-- behind them was not looked at.
unfoldable pub reading_of : Stream → Reading
reading_of s = elim s.cut [ true ↦ Cut | false ↦ elim (ltb (length s.sheets) most_sheets) [ true ↦ Ended | false ↦ Going ] ]

-- a length, and as many bytes as it says
unfoldable pub is_piece : List ℕ → List ℕ → Bool
is_piece head sheet = leb length_bytes (length head) && leb (length_in head) (length sheet)

-- A whole sheet is counted. Otherwise reading is over, and something broke off if anything was read.
pub record Steps (s : Season) (head sheet : List ℕ) (r : Season) : Type 0 where
  pub capped : is_piece head sheet ≡ true → CountsSheet s.figures sheet r.figures
  pub tells : is_piece head sheet ≡ true → OutcomeTells sheet × CountTells s.figures sheet r.figures
  pub counts : is_piece head sheet ≡ true → AddsSheet s.figures sheet r.figures × (r.reading ≡ s.reading)
  pub ends : is_piece head sheet ≡ false → (r.figures ≡ s.figures) × (r.reading ≡ over_by (ltb 0 (length head)))

-- the sheet that stands first in a stream
unfoldable pub first_sheet : List ℕ → List ℕ
first_sheet bytes = take (length_in bytes) (drop length_bytes bytes)

-- the same of a stream, with what is left of it behind a whole sheet
pub record Advances (bytes : List ℕ) (s r : Season) (rest : List ℕ) : Type 0 where
  pub counts : is_whole bytes ≡ true
      → AddsSheet s.figures (first_sheet bytes) r.figures
      × (r.reading ≡ s.reading)
      × (rest ≡ drop (length_bytes + length_in bytes) bytes)
  pub ends : is_whole bytes ≡ false → (r.figures ≡ s.figures) × (r.reading ≡ over_by (ltb 0 (length bytes)))
