-- The nights of docs/RULES.md that are marked P, each whole, in one claim. `nights` of `model_network` has more nights beside them.
use Rattle.std.specs.Prelude.{ℕ, ◌≡◌, List, [], ◌∷◌}
use Rattle.model_agent.specs.Message.{Info, Back, AddLink}
use Rattle.model_network.specs.Run.{Unsolvable, Plan, Open}
use Rattle.model_network.specs.Nights.{
  sheet1,
  sheet2,
  sheet3,
  sheet4,
  sheet5,
  sheet9,
  empty,
  Runs,
  Delivers,
  Waiting,
  Values,
  Night,
  Played,
  SameStart,
  AllHold,
}
use Rattle.abt_dock_text.specs.Settling.{program_rounds}
use Rattle.abt_dock_text.specs.Text.{dock_text}

unfoldable pub marked_nights : List Night
marked_nights =
    -- P1: `plan`, 0 rounds, slot 1. P8, first half: on P1 a delivery from 1 to 1 is refused with 6.
    Played sheet1 (Runs 100000 Plan 0 ∷ Values (1 ∷ []) ∷ Delivers 1 1 6 ∷ [])
    -- P2: `none`, 2 rounds. P7: a delivery after that verdict is refused with 7.
    ∷ Played sheet2 (Runs 100000 Unsolvable 2 ∷ Delivers 1 2 7 ∷ [])
    -- P3: `plan`, 1 round, slots 1 and 2. P8, second half: at rest a delivery from 1 to 2 is refused with 8.
    ∷ Played sheet3 (Runs 100000 Plan 1 ∷ Values (1 ∷ 2 ∷ []) ∷ Delivers 1 2 8 ∷ [])
    -- P4: P3 with its ban on the chain twice is the same rail.
    ∷ SameStart sheet4 sheet3
    -- P5: `plan`, 3 rounds, slots 2 and 1.
    ∷ Played sheet5 (Runs 100000 Plan 3 ∷ Values (2 ∷ 1 ∷ []) ∷ [])
    -- P6: P2 with no rounds allowed is `open`, with 0 rounds.
    ∷ Played sheet2 (Runs 0 Open 0 ∷ [])
    -- P9: `plan`, 5 rounds, slots 2, 1 and 1.
    ∷ Played sheet9 (Runs 100000 Plan 5 ∷ Values (2 ∷ 1 ∷ 1 ∷ []) ∷ [])
    -- P9, round by round. "Scanner 2 asks scanner 1 for a link in round 2 and sends its slot to 3 for the third time in round 4, after the start and round 2."
    ∷ Played sheet9 (
    Waiting 2 3 (Info 1 ∷ [])
    ∷ Runs 1 Open 1 ∷ Waiting 2 3 [] ∷ Waiting 2 1 []
    ∷ Runs 1 Open 1 ∷ Waiting 2 3 (Info 1 ∷ []) ∷ Waiting 2 1 (AddLink ∷ Back empty 1 ∷ [])
    ∷ Runs 1 Open 1 ∷ Waiting 2 3 []
    ∷ Runs 1 Open 1 ∷ Waiting 2 3 (Info 1 ∷ [])
    ∷ Runs 1 Plan 1 ∷ Waiting 2 3 [] ∷ Values (2 ∷ 1 ∷ 1 ∷ []) ∷ [])
    ∷ []

-- what `dock` prints of P9
unfoldable pub nine_text : List ℕ
nine_text =
    118 ∷ 101 ∷ 114 ∷ 100 ∷ 105 ∷ 99 ∷ 116 ∷ 32 ∷ 112 ∷ 108 ∷ 97 ∷ 110 ∷ 10  -- "verdict plan"
    ∷ 114 ∷ 111 ∷ 117 ∷ 110 ∷ 100 ∷ 115 ∷ 32 ∷ 53 ∷ 10  -- "rounds 5"
    ∷ 115 ∷ 99 ∷ 97 ∷ 110 ∷ 110 ∷ 101 ∷ 114 ∷ 32 ∷ 49 ∷ 32 ∷ 115 ∷ 108 ∷ 111 ∷ 116 ∷ 32 ∷ 50 ∷ 10  -- "scanner 1 slot 2"
    ∷ 115 ∷ 99 ∷ 97 ∷ 110 ∷ 110 ∷ 101 ∷ 114 ∷ 32 ∷ 50 ∷ 32 ∷ 115 ∷ 108 ∷ 111 ∷ 116 ∷ 32 ∷ 49 ∷ 10  -- "scanner 2 slot 1"
    ∷ 115 ∷ 99 ∷ 97 ∷ 110 ∷ 110 ∷ 101 ∷ 114 ∷ 32 ∷ 51 ∷ 32 ∷ 115 ∷ 108 ∷ 111 ∷ 116 ∷ 32 ∷ 49 ∷ 10  -- "scanner 3 slot 1"
    ∷ []

pub record MarkedNights : Type 0 where
  pub played : AllHold marked_nights
  pub printed : dock_text program_rounds sheet9 ≡ nine_text
