-- A list of deliveries that can go on without end, all of them accepted, and has no full round: two scanners answer each other, while news for one of
-- them waits. docs/RULES.md, 'Rounds and the run': what is bounded is full rounds, and not deliveries.
use Rattle.std.specs.Prelude.{ℕ, zero, suc, List, [], ◌∷◌, replicate}
use Rattle.model_sheet.specs.Problem.{Problem}
use Rattle.model_sheet.specs.Cases.{ban}
use Rattle.model_network.specs.Run.{Line}
use Rattle.model_network.specs.Nights.{sheet}

-- three scanners with slots 1, 1, 2: slot 1 of the first is banned with slot 1 of either other one, and slot 1 of the second with slot 2 of the third
unfoldable pub sheet_spinning : List ℕ
sheet_spinning = sheet (1 ∷ 1 ∷ 2 ∷ []) (ban 1 1 2 1 ∷ ban 1 1 3 1 ∷ ban 2 1 3 2 ∷ [])

-- the problem that it says
unfoldable pub three : Problem
three = record { count = 3; domains = 1 ∷ 1 ∷ 2 ∷ replicate 9 0; bans = 1 ∷ 1 ∷ 2 ∷ replicate 63 0 }

abbrev pub line : ℕ → ℕ → Line
line i j = record { from = i; to = j }

-- Agent 3 refuses agent 2's value, since agent 1 has slot 1; 2 has not heard of that and says its value again. So many times.
unfoldable pub turns : ℕ → List Line
turns zero = []
turns (suc k) = line 2 3 ∷ line 3 2 ∷ turns k

-- at first agent 3 hears of agent 1; agent 2 never does
unfoldable pub spinning : ℕ → List Line
spinning k = line 1 3 ∷ turns k
