-- The worked nights under the quiet rule, beside the same under rule 1 where they differ. docs/RULES.md, 'The quiet rule'.
use Rattle.std.specs.Prelude.{ℕ, List, [], ◌∷◌}
use Rattle.model_sheet.specs.Cases.{ban}
use Rattle.model_agent.specs.Message.{Info, Back, AddLink}
use Rattle.model_network.specs.Run.{Unsolvable, Plan, Open}
use Rattle.model_network.specs.Nights.{
  sheet,
  Runs,
  Delivers,
  Waiting,
  Values,
  Counted,
  Night,
  Played,
  Quietly,
  sheet1,
  sheet2,
  sheet3,
  sheet5,
  sheet9,
  empty,
}

-- agent 2, refused by 3, backs up and takes its only value again: under rule 2 agent 4, which knows it, is not told
unfoldable pub sheet_silent : List ℕ
sheet_silent = sheet (2 ∷ 1 ∷ 2 ∷ 1 ∷ []) (ban 1 1 3 1 ∷ ban 2 1 3 2 ∷ ban 2 1 4 1 ∷ [])

-- under rule 1 agent 2 tells 3 its value a second time, and 3 refuses once more
unfoldable pub sheet_sooner : List ℕ
sheet_sooner = sheet (2 ∷ 1 ∷ 2 ∷ []) (ban 1 1 2 1 ∷ ban 1 1 3 1 ∷ ban 2 1 3 2 ∷ [])

-- with the refuser forgotten while agent 2 backs up, it would rest on 2 at 1 with 3 at 1
unfoldable pub sheet_forgotten : List ℕ
sheet_forgotten = sheet (2 ∷ 1 ∷ 2 ∷ []) (ban 1 1 3 2 ∷ ban 2 1 3 1 ∷ [])

unfoldable pub quiet_nights : List Night
quiet_nights =
    -- P1, P2, P3 and P5 end as under rule 1
    Quietly sheet1 (Runs 100000 Plan 0 ∷ Values (1 ∷ []) ∷ [])
    ∷ Quietly sheet2 (Runs 100000 Unsolvable 2 ∷ Delivers 1 2 7 ∷ [])
    ∷ Quietly sheet3 (Runs 100000 Plan 1 ∷ Values (1 ∷ 2 ∷ []) ∷ Delivers 1 2 8 ∷ [])
    ∷ Quietly sheet5 (Runs 100000 Plan 3 ∷ Values (2 ∷ 1 ∷ []) ∷ [])
    -- P9, with the same messages
    ∷ Quietly sheet9 (
    Waiting 1 3 (Info 1 ∷ []) ∷ Waiting 2 3 (Info 1 ∷ [])
    ∷ Runs 1 Open 1 ∷ Waiting 2 3 []
    ∷ Runs 1 Open 1 ∷ Waiting 2 1 (AddLink ∷ Back empty 1 ∷ []) ∷ Waiting 2 3 (Info 1 ∷ [])
    ∷ Runs 1 Open 1 ∷ Waiting 2 3 []
    ∷ Runs 1 Open 1 ∷ Waiting 2 3 (Info 1 ∷ [])
    ∷ Runs 1 Plan 1 ∷ Values (2 ∷ 1 ∷ 1 ∷ [])
    ∷ Counted 1 (4 ∷ 0 ∷ 0 ∷ []) (0 ∷ 1 ∷ 1 ∷ [])
    ∷ Counted 2 (3 ∷ 1 ∷ 1 ∷ []) (2 ∷ 2 ∷ 0 ∷ [])
    ∷ Counted 3 (0 ∷ 2 ∷ 0 ∷ []) (5 ∷ 0 ∷ 0 ∷ []) ∷ [])
    -- the slot is new, and the refuser is told it once
    ∷ Quietly sheet5 (Delivers 1 2 0 ∷ Delivers 2 1 0 ∷ Waiting 1 2 (Info 2 ∷ []) ∷ [])
    -- the slot is the old one: the refuser is told, the other is not; under rule 1 both are
    ∷ Quietly sheet_silent (
    Delivers 1 3 0 ∷ Delivers 2 3 0 ∷ Delivers 2 4 0 ∷ Delivers 3 2 0
    ∷ Waiting 2 3 (Info 1 ∷ []) ∷ Waiting 2 4 [] ∷ [])
    ∷ Played sheet_silent (
    Delivers 1 3 0 ∷ Delivers 2 3 0 ∷ Delivers 2 4 0 ∷ Delivers 3 2 0
    ∷ Waiting 2 3 (Info 1 ∷ []) ∷ Waiting 2 4 (Info 1 ∷ []) ∷ [])
    -- the same word and slots, sooner and with fewer messages: 11 under rule 1, 8 under rule 2
    ∷ Played sheet_sooner (
    Runs 100000 Plan 4 ∷ Values (2 ∷ 1 ∷ 1 ∷ [])
    ∷ Counted 1 (4 ∷ 0 ∷ 0 ∷ []) (0 ∷ 1 ∷ 0 ∷ [])
    ∷ Counted 2 (4 ∷ 1 ∷ 0 ∷ []) (2 ∷ 2 ∷ 0 ∷ [])
    ∷ Counted 3 (0 ∷ 2 ∷ 0 ∷ []) (6 ∷ 0 ∷ 0 ∷ []) ∷ [])
    ∷ Quietly sheet_sooner (
    Runs 100000 Plan 3 ∷ Values (2 ∷ 1 ∷ 1 ∷ [])
    ∷ Counted 1 (4 ∷ 0 ∷ 0 ∷ []) (0 ∷ 1 ∷ 0 ∷ [])
    ∷ Counted 2 (2 ∷ 1 ∷ 0 ∷ []) (2 ∷ 1 ∷ 0 ∷ [])
    ∷ Counted 3 (0 ∷ 1 ∷ 0 ∷ []) (4 ∷ 0 ∷ 0 ∷ []) ∷ [])
    -- the refuser stays the one whose refusal is worked, whoever is refused in turn
    ∷ Quietly sheet_forgotten (Runs 100000 Plan 5 ∷ Values (2 ∷ 1 ∷ 2 ∷ []) ∷ [])
    ∷ []
