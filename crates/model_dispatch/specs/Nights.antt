-- Worked cases of the dispatcher: scripts of picks and of what must be seen between them; the first night. Further ones are in `model_cases`.
use Rattle.std.specs.Prelude.{ℕ, ◌≡◌, Bool, true, false, not, ◌&&◌, List, [], ◌∷◌, eqb, None, Option, Some}
use Rattle.model_base.specs.Finite.{is_some}
use Rattle.model_sheet.specs.Cases.{ban}
use Rattle.model_network.specs.Network.{Network, start_sheet}
use Rattle.model_network.specs.Delivery.{answer_number}
use Rattle.model_network.specs.Run.{Line, is_line}
use Rattle.model_network.specs.Nights.{sheet}
use Rattle.model_dispatch.specs.Dispatch.{Dispatcher, deliverable, pick, dispatcher}

abbrev pub line : ℕ → ℕ → Line
line i j = record { from = i; to = j }

-- ---- scripts

pub data Scene : Type 0 where
  Serves : Line → Line → Scene  -- a pick with the first for its wish is accepted, and serves the second
  Refuses : Line → ℕ → Scene  -- a pick with this wish is refused with this number, and serves no line
  Place : Line → Scene  -- the place
  Picks : ℕ → Scene  -- the count of picks
  Can : Line → Scene  -- the line can be delivered

unfoldable pub is_served : Line → Option Line → Bool
is_served l None = false
is_served l (Some m) = is_line l.from l.to m

-- a script holds from a state on
unfoldable pub holds_from : List Scene → Dispatcher → Bool
holds_from [] d = true
holds_from (Serves wish l ∷ cs) d =
    let p = pick d wish in eqb (answer_number p.answer) 0 && is_served l p.served && holds_from cs p.state
holds_from (Refuses wish number ∷ cs) d =
    let p = pick d wish in eqb (answer_number p.answer) number && not (is_some p.served) && holds_from cs p.state
holds_from (Place l ∷ cs) d = is_line l.from l.to d.place && holds_from cs d
holds_from (Picks k ∷ cs) d = eqb d.picks k && holds_from cs d
holds_from (Can l ∷ cs) d = deliverable d.network l && holds_from cs d

-- ---- nights

pub data Night : Type 0 where
  Hosted : Dispatcher → List Scene → Night  -- the script holds from this state

abbrev pub NightHolds : Night → Type 0
NightHolds (Hosted d script) = holds_from script d ≡ true

abbrev pub AllHold : List Night → Type 0
AllHold [] = Unit {0}
AllHold (c ∷ cs) = NightHolds c × AllHold cs

-- three agents, each content with its first value: news waits on 1 to 2, 1 to 3 and 2 to 3, and calls for no answer
unfoldable pub three : Network
three = (start_sheet 1 (sheet (2 ∷ 2 ∷ 2 ∷ []) (ban 1 1 2 2 ∷ ban 1 1 3 2 ∷ ban 2 1 3 2 ∷ []))).network

unfoldable pub nights : List Night
nights =
    -- an odd pick takes the wish, an even one the first line in turn, whatever the wish; a wish on an empty line makes the third pick an even one;
    -- then nothing waits
    Hosted (dispatcher three) (
    Place (line 0 0) ∷ Picks 0
    ∷ Serves (line 1 3) (line 1 3) ∷ Place (line 0 0) ∷ Picks 1
    ∷ Serves (line 1 3) (line 1 2) ∷ Place (line 1 2) ∷ Picks 2
    ∷ Serves (line 1 3) (line 2 3) ∷ Place (line 2 3) ∷ Picks 3
    ∷ Refuses (line 1 3) 8 ∷ Place (line 2 3) ∷ Picks 3 ∷ [])
    ∷ []
