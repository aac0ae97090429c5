-- The runs' own rounds are one marking of what a list of calls tries, with exactly the full ones marked: a delivery by itself is a gap, and a run
-- counts a round exactly if it is full at its place in the list.
use Rattle.std.proofs.Common.{◌≡◌, refl, sym, ap, ◌∙◌, true, List, [], ◌∷◌, ◌++◌, map, append-nil, append_assoc, ℕ, ◌+◌}
use mathlib.Core.Bool.{false≢true}
use mathlib.Core.List.{map-append}
use Rattle.model_sheet.specs.Problem.{Problem, in_range}
use Rattle.model_network.specs.Network.{Network, start}
use Rattle.model_network.specs.Run.{Line, Round, one_if, run}
use Rattle.theorems_network.specs.Calls.{
  Call,
  Deliver,
  Run,
  tried_by,
  left_by,
  made_by,
  tried_by_all,
  made_by_all,
  replay,
  Stretch,
  lines_of,
  marked_in,
  AllFull,
  ExactlyFull,
  round_stretch,
}
use Rattle.theorems_network.specs.Marking.{Part, Alone, Own, parts_of, parts_of_all, stretch_of, own_marking, AllMarkedRightly}
use Rattle.theorems_network.specs.Claims.{RunsMark, EveryProblem}
use Rattle.theorems_network.proofs.Tries.{replay-append}
use Rattle.theorems_network.proofs.Replay.{call-replay}
use Rattle.theorems_network.proofs.Markings.{lines-append, marked_append}
use Rattle.theorems_network.proofs.RunRounds.{lines-tries, run-counted}

-- ---- parts, as stretches

-- the lines that these parts hold
abbrev lines_in : List Part → List Line
lines_in qs = lines_of (map stretch_of qs)

own-stretches : (rs : List Round) → map stretch_of (map Own rs) ≡ map round_stretch rs
unfolding stretch_of
own-stretches [] = refl
own-stretches (r ∷ rs) = ap (λ (ss : List Stretch). round_stretch r ∷ ss) (own-stretches rs)

lines-in-append : (qs rs : List Part) → lines_in (qs ++ rs) ≡ lines_in qs ++ lines_in rs
lines-in-append qs rs = rw (map-append stretch_of qs rs) (lines-append (map stretch_of qs) (map stretch_of rs))

marked-in-append : (qs rs : List Part)
    → marked_in (map stretch_of (qs ++ rs)) ≡ marked_in (map stretch_of qs) + marked_in (map stretch_of rs)
marked-in-append qs rs = rw (map-append stretch_of qs rs) (marked_append (map stretch_of qs) (map stretch_of rs))

rightly-append : (rule : ℕ) (p : Problem) (before : List Line) (qs rs : List Part) → AllMarkedRightly rule p before qs
    → AllMarkedRightly rule p (before ++ lines_in qs) rs → AllMarkedRightly rule p before (qs ++ rs)
unfolding lines_of
rightly-append rule p before [] rs E F = rw (append-nil before) at F
rightly-append rule p before (q ∷ qs) rs E F =
    (E.0, rightly-append rule p (before ++ (stretch_of q).lines) qs rs E.1 (rw (append_assoc before (stretch_of q).lines (lines_in qs)) F))

-- exactly the full ones are marked, so every marked one is full
rightly-full : (rule : ℕ) (p : Problem) (before : List Line) (qs : List Part) → AllMarkedRightly rule p before qs
    → AllFull rule p before (map stretch_of qs)
unfolding stretch_of
rightly-full rule p before [] E = tt
rightly-full rule p before (Alone l ∷ qs) E = (λ e. absurd (false≢true e), rightly-full rule p (before ++ (l ∷ [])) qs E.1)
rightly-full rule p before (Own r ∷ qs) E = (E.0.0, rightly-full rule p (before ++ (round_stretch r).lines) qs E.1)

-- ---- one call

call-lines : (c : Call) (w : Network) → lines_in (parts_of c w) ≡ tried_by c w
unfolding parts_of stretch_of lines_of tried_by
call-lines (Deliver i j) w = refl
call-lines (Run k) w = rw (own-stretches (run k w).rounds) (lines-tries (run k w).rounds)

rounds-rightly : (rule : ℕ) (p : Problem) (before : List Line) (rs : List Round) → ExactlyFull rule p before (map round_stretch rs)
    → AllMarkedRightly rule p before (map Own rs)
unfolding stretch_of
rounds-rightly rule p before [] E = tt
rounds-rightly rule p before (r ∷ rs) E = ((E.0, E.1), rounds-rightly rule p (before ++ (round_stretch r).lines) rs E.2)

call-rightly : (rule : ℕ) (p : Problem) → in_range p ≡ true → (before : List Line) (c : Call)
    → AllMarkedRightly rule p before (parts_of c (replay before (start rule p)))
unfolding parts_of stretch_of
call-rightly rule p r before (Deliver i j) = (refl, tt)
call-rightly rule p r before (Run k) =
    rounds-rightly rule p before (run k (replay before (start rule p))).rounds (run-counted rule p r before k).exact

call-made : (rule : ℕ) (p : Problem) → in_range p ≡ true → (before : List Line) (c : Call)
    → marked_in (map stretch_of (parts_of c (replay before (start rule p)))) ≡ made_by c (replay before (start rule p))
unfolding parts_of stretch_of marked_in made_by one_if
call-made rule p r before (Deliver i j) = refl
call-made rule p r before (Run k) =
    rw (own-stretches (run k (replay before (start rule p))).rounds) (sym (run-counted rule p r before k).returned)

-- ---- a list of calls

own-lines : (cs : List Call) (w : Network) → lines_in (parts_of_all cs w) ≡ tried_by_all cs w
unfolding parts_of_all lines_of tried_by_all
own-lines [] w = refl
own-lines (c ∷ cs) w =
    rw (lines-in-append (parts_of c w) (parts_of_all cs (left_by c w)), call-lines c w, own-lines cs (left_by c w))

-- the network that a call leaves, as one reached by tries
left_by_lem : (rule : ℕ) (p : Problem) (before : List Line) (c : Call)
    → left_by c (replay before (start rule p)) ≡ replay (before ++ tried_by c (replay before (start rule p))) (start rule p)
left_by_lem rule p before c =
    call-replay c (replay before (start rule p)) ∙ sym (replay-append before (tried_by c (replay before (start rule p))) (start rule p))

own-rightly : (rule : ℕ) (p : Problem) → in_range p ≡ true → (cs : List Call) (before : List Line)
    → AllMarkedRightly rule p before (parts_of_all cs (replay before (start rule p)))
unfolding parts_of_all
own-rightly rule p r [] before = tt
own-rightly rule p r (c ∷ cs) before =
    let w = replay before (start rule p) in
    rightly-append rule p before (parts_of c w) (parts_of_all cs (left_by c w)) (call-rightly rule p r before c)
    (rw (call-lines c w, left_by_lem rule p before c) (own-rightly rule p r cs (before ++ tried_by c w)))

own-made : (rule : ℕ) (p : Problem) → in_range p ≡ true → (cs : List Call) (before : List Line)
    → marked_in (map stretch_of (parts_of_all cs (replay before (start rule p)))) ≡ made_by_all cs (replay before (start rule p))
unfolding parts_of_all marked_in made_by_all
own-made rule p r [] before = refl
own-made rule p r (c ∷ cs) before =
    let w = replay before (start rule p) in
    rw (marked-in-append (parts_of c w) (parts_of_all cs (left_by c w)), call-made rule p r before c, left_by_lem rule p before c)
    (ap (λ m. made_by c w + m) (own-made rule p r cs (before ++ tried_by c w)))

pub own-marked : EveryProblem RunsMark
unfolding replay own_marking
own-marked rule _ p r calls =
    record {
      lines = own-lines calls (start rule p);
      full = rightly-full rule p [] (parts_of_all calls (start rule p)) (own-rightly rule p r calls []);
      exact = own-rightly rule p r calls [];
      number = own-made rule p r calls [];
    }
