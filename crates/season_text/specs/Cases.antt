-- Worked seasons, from bytes to bytes.
use Rattle.std.specs.Prelude.{ℕ, ◌≡◌, List, [], ◌∷◌}
use Rattle.model_network.specs.Nights.{sheet1, sheet2, sheet3}
use Rattle.model_season.specs.Stream.{season}
use Rattle.model_season.specs.Claims.{stream_of}
use Rattle.season_text.specs.Text.{season_text}

-- the nights P1, P2, P3 in a row
unfoldable pub three_nights : List ℕ
three_nights = stream_of (sheet1 ∷ sheet2 ∷ sheet3 ∷ []) []

unfoldable pub three_nights_text : List ℕ
three_nights_text =
    115 ∷ 104 ∷ 101 ∷ 101 ∷ 116 ∷ 115 ∷ 32 ∷ 51 ∷ 10  -- "sheets 3"
    ∷ 114 ∷ 101 ∷ 102 ∷ 117 ∷ 115 ∷ 101 ∷ 100 ∷ 32 ∷ 48 ∷ 32 ∷ 48 ∷ 32 ∷ 48 ∷ 32 ∷ 48 ∷ 10  -- "refused 0 0 0 0"
    ∷ 119 ∷ 111 ∷ 114 ∷ 100 ∷ 115 ∷ 32 ∷ 49 ∷ 32 ∷ 50 ∷ 32 ∷ 48 ∷ 32 ∷ 48 ∷ 10  -- "words 1 2 0 0"
    ∷ 99 ∷ 117 ∷ 116 ∷ 32 ∷ 48 ∷ 10  -- "cut 0"
    ∷ 102 ∷ 101 ∷ 119 ∷ 101 ∷ 115 ∷ 116 ∷ 32 ∷ 48 ∷ 10  -- "fewest 0"
    ∷ 109 ∷ 111 ∷ 115 ∷ 116 ∷ 32 ∷ 50 ∷ 10  -- "most 2"
    ∷ 115 ∷ 117 ∷ 109 ∷ 32 ∷ 51 ∷ 10  -- "sum 3"
    ∷ 109 ∷ 101 ∷ 97 ∷ 110 ∷ 32 ∷ 51 ∷ 47 ∷ 51 ∷ 10  -- "mean 3/3"
    ∷ []

-- a stream that ends at once
unfoldable pub empty_text : List ℕ
empty_text =
    115 ∷ 104 ∷ 101 ∷ 101 ∷ 116 ∷ 115 ∷ 32 ∷ 48 ∷ 10  -- "sheets 0"
    ∷ 114 ∷ 101 ∷ 102 ∷ 117 ∷ 115 ∷ 101 ∷ 100 ∷ 32 ∷ 48 ∷ 32 ∷ 48 ∷ 32 ∷ 48 ∷ 32 ∷ 48 ∷ 10  -- "refused 0 0 0 0"
    ∷ 119 ∷ 111 ∷ 114 ∷ 100 ∷ 115 ∷ 32 ∷ 48 ∷ 32 ∷ 48 ∷ 32 ∷ 48 ∷ 32 ∷ 48 ∷ 10  -- "words 0 0 0 0"
    ∷ 99 ∷ 117 ∷ 116 ∷ 32 ∷ 48 ∷ 10  -- "cut 0"
    ∷ 102 ∷ 101 ∷ 119 ∷ 101 ∷ 115 ∷ 116 ∷ 32 ∷ 45 ∷ 10  -- "fewest -"
    ∷ 109 ∷ 111 ∷ 115 ∷ 116 ∷ 32 ∷ 45 ∷ 10  -- "most -"
    ∷ 115 ∷ 117 ∷ 109 ∷ 32 ∷ 45 ∷ 10  -- "sum -"
    ∷ 109 ∷ 101 ∷ 97 ∷ 110 ∷ 32 ∷ 45 ∷ 10  -- "mean -"
    ∷ []

-- P1, a sheet of no bytes, and a length whose sheet breaks off
unfoldable pub broken : List ℕ
broken = stream_of (sheet1 ∷ [] ∷ []) (24 ∷ 0 ∷ 1 ∷ 1 ∷ [])

unfoldable pub broken_text : List ℕ
broken_text =
    115 ∷ 104 ∷ 101 ∷ 101 ∷ 116 ∷ 115 ∷ 32 ∷ 50 ∷ 10  -- "sheets 2"
    ∷ 114 ∷ 101 ∷ 102 ∷ 117 ∷ 115 ∷ 101 ∷ 100 ∷ 32 ∷ 49 ∷ 32 ∷ 48 ∷ 32 ∷ 48 ∷ 32 ∷ 48 ∷ 10  -- "refused 1 0 0 0"
    ∷ 119 ∷ 111 ∷ 114 ∷ 100 ∷ 115 ∷ 32 ∷ 48 ∷ 32 ∷ 49 ∷ 32 ∷ 48 ∷ 32 ∷ 48 ∷ 10  -- "words 0 1 0 0"
    ∷ 99 ∷ 117 ∷ 116 ∷ 32 ∷ 49 ∷ 10  -- "cut 1"
    ∷ 102 ∷ 101 ∷ 119 ∷ 101 ∷ 115 ∷ 116 ∷ 32 ∷ 48 ∷ 10  -- "fewest 0"
    ∷ 109 ∷ 111 ∷ 115 ∷ 116 ∷ 32 ∷ 48 ∷ 10  -- "most 0"
    ∷ 115 ∷ 117 ∷ 109 ∷ 32 ∷ 48 ∷ 10  -- "sum 0"
    ∷ 109 ∷ 101 ∷ 97 ∷ 110 ∷ 32 ∷ 48 ∷ 47 ∷ 49 ∷ 10  -- "mean 0/1"
    ∷ []

abbrev pub AllPrint : Type 0
AllPrint = (season_text (season three_nights) ≡ three_nights_text) × (season_text (season []) ≡ empty_text) × (season_text (season broken) ≡ broken_text)
