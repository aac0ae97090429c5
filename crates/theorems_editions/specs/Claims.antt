-- The claims about turning: nothing is lost, 15 is given exactly where gaps cannot say it, and twice is once.
use Rattle.std.specs.Prelude.{ℕ, ◌≤◌, ◌<◌, ◌≡◌, ◌↔◌, true, false, List, length}
use Rattle.model_sheet.specs.Problem.{Problem, owns, banned}
use Rattle.model_sheet.specs.Row.{gap}
use Rattle.model_sheet.specs.Sheet.{Valid, longest_sheet, edition_in, decode}
use Rattle.model_editions.specs.Turning.{not_sayable, Turned, Made, Refused, decode_as, ban_sheet, gap_sheet}

-- t is a sheet of this edition that says what s says. "Slot counts and ban table before and after are equal, and the start accepts every sheet that
-- is written."
pub record Says (edition : ℕ) (s t : List ℕ) : Type 0 where
  pub problem : Problem
  pub before : decode s ≡ Valid problem
  pub after : decode t ≡ Valid problem
  pub kind : edition_in t ≡ edition
  pub short : length t ≤ longest_sheet

abbrev pub BansKept : Type 0
BansKept = (s t : List ℕ) → ban_sheet s ≡ Made t → Says 1 s t

abbrev pub GapsKept : Type 0
GapsKept = (s t : List ℕ) → gap_sheet s ≡ Made t → Says 2 s t

-- "two scanners have two owned pairs of slots with equal gap, one banned and one free"
pub record Mixed (p : Problem) : Type 0 where
  pub lower : ℕ
  pub higher : ℕ
  pub agents : (1 ≤ lower) × (lower < higher) × (higher ≤ p.count)
  pub low : ℕ
  pub high : ℕ
  pub owned : (owns p lower low ≡ true) × (owns p higher high ≡ true)
  pub ban : banned p lower higher low high ≡ true
  pub low' : ℕ
  pub high' : ℕ
  pub owned' : (owns p lower low' ≡ true) × (owns p higher high' ≡ true)
  pub free : banned p lower higher low' high' ≡ false
  pub equal : gap low high ≡ gap low' high'

-- "A good sheet is not sayable in gaps exactly when .."
abbrev pub RefusedAsSaid : Type 0
RefusedAsSaid =
    (s : List ℕ) → gap_sheet s ≡ Refused not_sayable ↔ ((p : Problem) × (decode_as 1 s ≡ Valid p) × Mixed p)

-- "Whatever a gap sheet bans is sayable in gaps."
abbrev pub BackAgain : Type 0
BackAgain = (s t : List ℕ) → ban_sheet s ≡ Made t → (u : List ℕ) × (gap_sheet t ≡ Made u)

-- one after the other, where the first refuses nothing
unfoldable pub onward : (List ℕ → Turned) → Turned → Turned
onward turn (Made t) = turn t
onward turn (Refused number) = Refused number

-- "Turning there and back a second time gives the same bytes as the first, from either edition": on the way and at the end
pub record Twice (there back : List ℕ → Turned) (s t u : List ℕ) : Type 0 where
  pub first : there s ≡ Made t
  pub end : back t ≡ Made u
  pub second : there u ≡ Made t
  pub again : onward back (there u) ≡ Made u

abbrev pub TwiceFromGaps : Type 0
TwiceFromGaps = (s t : List ℕ) → ban_sheet s ≡ Made t → (u : List ℕ) × Twice ban_sheet gap_sheet s t u

abbrev pub TwiceFromBans : Type 0
TwiceFromBans = (s t : List ℕ) → gap_sheet s ≡ Made t → (u : List ℕ) × Twice gap_sheet ban_sheet s t u
