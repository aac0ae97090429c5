-- Further worked nights under rule 1: gaps, whom to blame, what is unknown, a forged rail with full lines run to its end.
use Rattle.std.specs.Prelude.{ℕ, List, [], ◌∷◌, None, Some}
use Rattle.model_sheet.specs.Cases.{ban, gaps, minus}
use Rattle.model_agent.specs.Message.{Info, Back, AddLink}
use Rattle.model_agent.specs.Agent.{with_counts}
use Rattle.model_agent.specs.Cases.{values, agent, counts}
use Rattle.model_network.specs.Run.{Unsolvable, Plan, Open}
use Rattle.model_network.specs.Nights.{sheet, sheet9, sheet_of, Runs, Waiting, Values, Holds, Night, Played, SameStart, Forged, empty, crowded}

-- the highest-numbered blamed would end in 3 rounds
unfoldable pub sheet_blame : List ℕ
sheet_blame = sheet (2 ∷ 1 ∷ 2 ∷ []) (ban 1 1 2 1 ∷ ban 1 2 3 1 ∷ ban 1 2 3 2 ∷ ban 2 1 3 2 ∷ [])

-- unknown counting as a match would end in 3 rounds
unfoldable pub sheet_unknown : List ℕ
sheet_unknown =
    sheet (2 ∷ 2 ∷ 2 ∷ [])
    (ban 1 1 2 1 ∷ ban 1 1 2 2 ∷ ban 1 2 2 1 ∷ ban 1 1 3 2 ∷ ban 2 1 3 1 ∷ ban 2 2 3 2 ∷ [])

-- P9's slots; agent 3 behind agent 1 and not right behind agent 2, by slots and by gaps (the third record of gaps hits nothing)
unfoldable pub sheet_bans : List ℕ
sheet_bans = sheet (2 ∷ 1 ∷ 2 ∷ []) (ban 1 1 3 1 ∷ ban 1 2 3 1 ∷ ban 1 2 3 2 ∷ ban 2 1 3 2 ∷ [])

unfoldable pub sheet_gaps : List ℕ
sheet_gaps = sheet_of 2 (2 ∷ 1 ∷ 2 ∷ []) (gaps 1 3 (minus 7) 0 ∷ gaps 2 3 1 1 ∷ gaps 1 2 5 7 ∷ [])

-- in round 3 agent 3 blames agent 1 for value 2: of those who bar it, 1 is named by the reason of value 3, and 2 by that of value 1 just given
unfoldable pub sheet_higher : List ℕ
sheet_higher = sheet (2 ∷ 1 ∷ 3 ∷ []) (ban 1 1 3 2 ∷ ban 1 1 3 3 ∷ ban 2 1 3 1 ∷ ban 2 1 3 2 ∷ [])

-- in round 1 agent 3 blames agent 2 for value 2, as the reason of value 1 names it already
unfoldable pub sheet_earlier : List ℕ
sheet_earlier = sheet (1 ∷ 1 ∷ 2 ∷ []) (ban 1 1 3 2 ∷ ban 2 1 3 1 ∷ ban 2 1 3 2 ∷ [])

unfoldable pub further_nights : List Night
further_nights =
    -- P9, round by round: agent 2 sends to 3 at the start and in rounds 2 and 4 only, and asks agent 1 for a link before it refuses its value
    Played sheet9 (
    Waiting 2 3 (Info 1 ∷ [])
    ∷ Runs 1 Open 1 ∷ Waiting 2 3 []
    ∷ Runs 1 Open 1 ∷ Waiting 2 1 (AddLink ∷ Back empty 1 ∷ []) ∷ Waiting 2 3 (Info 1 ∷ [])
    ∷ Runs 1 Open 1 ∷ Waiting 2 3 []
    ∷ Runs 1 Open 1 ∷ Waiting 2 3 (Info 1 ∷ [])
    ∷ Runs 1 Plan 1 ∷ Waiting 2 3 []
    ∷ Values (2 ∷ 1 ∷ 1 ∷ []) ∷ [])
    -- the same bans by slots and by gaps
    ∷ SameStart sheet_gaps sheet_bans
    ∷ Played sheet_blame (Runs 100000 Unsolvable 4 ∷ [])
    ∷ Played sheet_unknown (Runs 100000 Plan 4 ∷ Values (2 ∷ 2 ∷ 1 ∷ []) ∷ [])
    -- whom to blame: with reasons of lower values alone agent 3 would have none for value 2
    ∷ Played sheet_higher (
    Runs 3 Open 3
    ∷ Holds 3 (with_counts (agent 1 (1 ∷ 2 ∷ []) [] (1 ∷ []) (None ∷ Some (values (1 ∷ [])) ∷ Some (values (1 ∷ [])) ∷ []))
    (counts (0 ∷ 2 ∷ []) (3 ∷ [])))
    ∷ Runs 100000 Plan 2 ∷ Values (2 ∷ 1 ∷ 3 ∷ []) ∷ [])
    -- with the lowest of all, or with reasons as they stood before the walk, the refusal would name agent 1, and the verdict would fall there
    ∷ Played sheet_earlier (
    Runs 1 Open 1 ∷ Waiting 3 2 (Back empty 1 ∷ [])
    ∷ Runs 100000 Unsolvable 1 ∷ Values (1 ∷ 0 ∷ 1 ∷ []) ∷ [])
    -- the crowded rail whose refusals call for no answer: its first round is not full, and the run goes on, with three full rounds of the four that it uses
    ∷ Forged (crowded 2) (Runs 4 Plan 3 ∷ Values (2 ∷ 1 ∷ []) ∷ [])
    ∷ []
