-- A season's figures in numbers of 64 bits: "a count that would pass the greatest number of 64 bits, 2^64 - 1, is that number, and stays there".
use Rattle.std.specs.Prelude.{ℕ, None, Option, Some}
use Rattle.model_agent.specs.Traffic.{raised}
use Rattle.model_season.specs.Season.{Rounds, Figures}

-- how many sheets, and the sum of their rounds; the fewest and the most are rounds of one sheet, and no counts
unfoldable pub capped_rounds : Option Rounds → Option Rounds
capped_rounds None = None
capped_rounds (Some r) = Some (record { count = raised 0 r.count; fewest = r.fewest; most = r.most; sum = raised 0 r.sum })

-- each count of a kind
unfoldable pub capped_kinds : (ℕ → ℕ) → ℕ → ℕ
capped_kinds f k = raised 0 (f k)

-- each count of the figures, and the sum
unfoldable pub capped : Figures → Figures
capped f =
    record { sheets = raised 0 f.sheets; refused = capped_kinds f.refused; words = capped_kinds f.words; rounds = capped_rounds f.rounds }
