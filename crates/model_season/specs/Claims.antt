-- The claims: what a sheet comes to; refused and words add up to the sheets; the order of the sheets does not matter; which sheets the rounds are of; what 64 bits hold of the figures; what is read of a stream.
use Rattle.std.specs.Prelude.{ℕ, ◌+◌, ◌*◌, ◌≤◌, ◌<◌, ◌≡◌, false, List, [], ◌∷◌, ◌++◌, ltb, length, None, Option, Some}
use Rattle.model_sheet.specs.Writing.{two_bytes}
use Rattle.model_agent.specs.Traffic.{top}
use Rattle.model_season.specs.Season.{season_rounds, Outcome, Refused, Ended, outcome, Rounds, place, with_outcome, figures_of}
use Rattle.model_season.specs.Capped.{capped}
use Rattle.model_season.specs.Stream.{is_whole, split}

-- "refused with a number, 1 to 4", or one of the four words and no more rounds than are allowed
abbrev pub Known : Outcome → Type 0
Known (Refused k) = (1 ≤ k) × (k ≤ 4)
Known (Ended e n) = (1 ≤ place e) × (place e ≤ 4) × (n ≤ season_rounds)

abbrev pub EachKnown : Type 0
EachKnown = (sheet : List ℕ) → Known (outcome sheet)

-- numbers 1 to 4, or the four words
unfoldable pub four : (ℕ → ℕ) → ℕ
four f = f 1 + f 2 + f 3 + f 4

-- "Refused and words add up to the sheets"
abbrev pub AddUp : Type 0
AddUp =
    (sheets : List (List ℕ)) → ((figures_of sheets).sheets ≡ length sheets)
    × (four (figures_of sheets).refused + four (figures_of sheets).words ≡ length sheets)

-- the second list is the first in another order: what stands first in the one stands somewhere in the other, and so do those left
abbrev pub Reordered : List (List ℕ) → List (List ℕ) → Type 0
Reordered [] ys = ys ≡ []
Reordered (x ∷ xs) ys =
    (before : List (List ℕ)) × (after : List (List ℕ)) × (ys ≡ before ++ (x ∷ after)) × Reordered xs (before ++ after)

-- "the same whole sheets in another order give the same figures"
abbrev pub AnyOrder : Type 0
AnyOrder = (xs ys : List (List ℕ)) → Reordered xs ys → figures_of xs ≡ figures_of ys

-- .. so too read from streams, however these end: "`cut` aside"
abbrev pub StreamsInAnyOrder : Type 0
StreamsInAnyOrder =
    (most : ℕ) (a b : List ℕ) → Reordered (split most a).sheets (split most b).sheets
    → figures_of (split most a).sheets ≡ figures_of (split most b).sheets

-- one sheet behind the others
abbrev pub OneMoreSheet : Type 0
OneMoreSheet = (sheets : List (List ℕ)) (sheet : List ℕ) → figures_of (sheets ++ (sheet ∷ [])) ≡ with_outcome (outcome sheet) (figures_of sheets)

-- how many sheets the rounds are of
unfoldable pub count_in : Option Rounds → ℕ
count_in None = 0
count_in (Some r) = r.count

unfoldable pub sum_in : Option Rounds → ℕ
sum_in None = 0
sum_in (Some r) = r.sum

-- the rounds are those of `none` and `plan`, all of them
abbrev pub MeanOver : Type 0
MeanOver = (sheets : List (List ℕ)) → count_in (figures_of sheets).rounds ≡ (figures_of sheets).words 1 + (figures_of sheets).words 2

-- .. and never many
abbrev pub SumBound : Type 0
SumBound = (sheets : List (List ℕ)) → sum_in (figures_of sheets).rounds ≤ season_rounds * length sheets

-- ---- numbers of 64 bits

-- counted one by one and capped each time, sheets come to the same as counted together and capped once, however many they are
abbrev pub CappedInTurn : Type 0
CappedInTurn = (sheets : List (List ℕ)) (sheet : List ℕ) → capped (with_outcome (outcome sheet) (capped (figures_of sheets))) ≡ capped (figures_of (sheets ++ (sheet ∷ [])))

-- the figures of any list that is not beyond all measure are those without a cap
abbrev pub NeverCapped : Type 0
NeverCapped = (sheets : List (List ℕ)) → season_rounds * length sheets ≤ top → capped (figures_of sheets) ≡ figures_of sheets

-- ---- streams

-- sheets as a stream, and what stands behind them
unfoldable pub stream_of : List (List ℕ) → List ℕ → List ℕ
stream_of [] rest = rest
stream_of (sheet ∷ more) rest = two_bytes (length sheet) ++ (sheet ++ stream_of more rest)

-- none is too long for two bytes
abbrev pub AllFit : List (List ℕ) → Type 0
AllFit [] = Unit {0}
AllFit (sheet ∷ more) = (length sheet < 65536) × AllFit more

-- whole sheets are read, fewer than the most, and what breaks off behind them is in no figure but `cut`
abbrev pub ReadsStream : Type 0
ReadsStream =
    (sheets : List (List ℕ)) → AllFit sheets → (most : ℕ) → length sheets < most → (rest : List ℕ) → is_whole rest ≡ false
    → split most (stream_of sheets rest) ≡ record { sheets = sheets; cut = ltb 0 (length rest) }

-- "and nothing after them"
abbrev pub ReadsNoMore : Type 0
ReadsNoMore =
    (sheets : List (List ℕ)) → AllFit sheets → (rest : List ℕ)
    → split (length sheets) (stream_of sheets rest) ≡ record { sheets = sheets; cut = false }
