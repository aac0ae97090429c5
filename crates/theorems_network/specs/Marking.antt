-- The runs' own rounds as one marking of all that a list of calls tries. docs/RULES.md, 'Rounds and the run': "the full rounds of all runs in a list
-- are one way to mark them off".
use Rattle.std.specs.Prelude.{ℕ, ◌≡◌, true, false, List, [], ◌∷◌, ◌++◌, map}
use Rattle.model_sheet.specs.Problem.{Problem}
use Rattle.model_network.specs.Network.{Network}
use Rattle.model_network.specs.Run.{Line, Round, run}
use Rattle.theorems_network.specs.Calls.{Call, Deliver, Run, left_by, FullRound, Stretch, round_stretch}

-- what a list of calls is made of
pub data Part : Type 0 where
  Alone : Line → Part  -- a delivery that is a call by itself
  Own : Round → Part  -- one of a run's own rounds

unfoldable pub parts_of : Call → Network → List Part
parts_of (Deliver i j) w = Alone (record { from = i; to = j }) ∷ []
parts_of (Run k) w = map Own (run k w).rounds

unfoldable pub parts_of_all : List Call → Network → List Part
parts_of_all [] w = []
parts_of_all (c ∷ cs) w = parts_of c w ++ parts_of_all cs (left_by c w)

-- a delivery by itself is a gap; one of a run's own rounds is marked if the run counted it
unfoldable pub stretch_of : Part → Stretch
stretch_of (Alone l) = record { lines = l ∷ []; marked = false }
stretch_of (Own r) = round_stretch r

-- .. all of them, as one marking of the list
unfoldable pub own_marking : List Call → Network → List Stretch
own_marking calls w = map stretch_of (parts_of_all calls w)

-- Of the runs' own rounds exactly the full ones are marked: a part is marked as it should be behind what was tried before it,
abbrev pub MarkedRightly : ℕ → Problem → List Line → Part → Type 0
MarkedRightly rule p before (Alone l) = (stretch_of (Alone l)).marked ≡ false
MarkedRightly rule p before (Own r) =
    ((round_stretch r).marked ≡ true → FullRound rule p before (round_stretch r).lines)
    × (FullRound rule p before (round_stretch r).lines → (round_stretch r).marked ≡ true)

-- .. and so is each of a list
abbrev pub AllMarkedRightly : ℕ → Problem → List Line → List Part → Type 0
AllMarkedRightly rule p before [] = Unit {0}
AllMarkedRightly rule p before (q ∷ qs) = MarkedRightly rule p before q × AllMarkedRightly rule p (before ++ (stretch_of q).lines) qs
