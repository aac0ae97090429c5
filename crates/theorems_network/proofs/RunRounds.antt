-- A run counts a round exactly if it is full at its place in the list, and returns how many it counts. A round's accepted tries lie within its
-- visits, and those have each channel as often as messages wait on it: they are as many in all exactly if they are as many on each channel.
use Rattle.std.proofs.Common.{◌≡◌, refl, ap, true, false, List, [], ◌∷◌, ◌++◌, map, append-nil, append_assoc, ℕ, ◌+◌, arith}
use mathlib.Core.List.{map-append}
use Rattle.model_base.proofs.Counting.{sublist-whole, sublist-full}
use Rattle.model_sheet.specs.Problem.{Problem, in_range}
use Rattle.model_network.specs.Network.{Network, start}
use Rattle.model_network.specs.Run.{Line, idle, round, Round, one_if, run, is_line}
use Rattle.theorems_network.specs.Calls.{line_of, tries_of, tried_by_all, replay, Stretch, lines_of, marked_in, ExactlyFull, round_stretch}
use Rattle.theorems_network.specs.Claims.{RunsCount, EveryProblem}
use Rattle.theorems_network.proofs.Moves.{Invariant}
use Rattle.theorems_network.proofs.Rounds.{Full}
use Rattle.theorems_network.proofs.Reached.{reached}
use Rattle.theorems_network.proofs.Tries.{replay-append}
use Rattle.theorems_shape.proofs.Runs.{round_of, kept-by-rounds}
use Rattle.theorems_network.proofs.Swept.{round-swept, accepted-on, counts-if, counts-only-if}
use Rattle.theorems_network.proofs.Replay.{FollowsRounds, rounds-none, rounds-more, calls-replay}
use Rattle.theorems_shape.proofs.Lines.{is-line}
use Rattle.theorems_shape.proofs.Visits.{visits-most}
use Rattle.theorems_network.proofs.Visits.{visits-all, busy-waits}
use Rattle.theorems_network.proofs.Markings.{marked_append, from-full, to-full}

-- ---- one round

counted-full : (p : Problem) (w : Network) → Invariant p w → idle w ≡ false → (round_of w).full ≡ true
    → Full (map line_of (round_of w).tried) w
unfolding round_of
counted-full p w I b e =
    let q = sublist-whole (round-swept w).within (counts-only-if w e) in
    record { waits = busy-waits w b; delivers = λ i j. rw (accepted-on w i j, q) (visits-all p w I i j) }

full-counted : (w : Network) → Full (map line_of (round_of w).tried) w → (round_of w).full ≡ true
unfolding round_of
full-counted w F =
    counts-if w (sublist-full (λ l. is_line l.from l.to) (λ l. is-line l.from l.to l refl refl) (round-swept w).within
    (λ l. let i = l.from in let j = l.to in omega (arith, visits-most w i j, F.delivers i j, accepted-on w i j)))

-- ---- the rounds of a run, as stretches of the list

pub lines-tries : (rs : List Round) → lines_of (map round_stretch rs) ≡ tries_of rs
unfolding lines_of round_stretch tries_of
lines-tries [] = refl
lines-tries (r ∷ rs) = ap (λ ls. map line_of r.tried ++ ls) (lines-tries rs)

exactly-append : (rule : ℕ) (p : Problem) (before : List Line) (ss ts : List Stretch) → ExactlyFull rule p before ss
    → ExactlyFull rule p (before ++ lines_of ss) ts → ExactlyFull rule p before (ss ++ ts)
unfolding lines_of
exactly-append rule p before [] ts E F = rw (append-nil before) at F
exactly-append rule p before (s ∷ ss) ts E F =
    (E.0, E.1, exactly-append rule p (before ++ s.lines) ss ts E.2 (rw (append_assoc before s.lines (lines_of ss)) F))

-- ---- the run

-- the rounds made so far, behind what was tried before the run, and how many were counted
pub record Counted (rule : ℕ) (p : Problem) (before : List Line) (made : ℕ) (rs : List Round) (w : Network) : Type 0 where
  pub follows : FollowsRounds (replay before (start rule p)) rs w
  pub exact : ExactlyFull rule p before (map round_stretch rs)
  pub returned : made ≡ marked_in (map round_stretch rs)

counted-more : (rule : ℕ) (p : Problem) → in_range p ≡ true → (before : List Line) (made : ℕ) (rs : List Round) (w : Network) → w.unsolvable ≡ false
    → idle w ≡ false → Counted rule p before made rs w
    → Counted rule p before (made + one_if (round_of w).full) (rs ++ (round_of w ∷ [])) (round w).network
unfolding round_stretch marked_in
counted-more rule p r before made rs w v b C =
    let s = round_stretch (round_of w) in
    let here : replay (before ++ lines_of (map round_stretch rs)) (start rule p) ≡ w =
    rw (lines-tries rs, replay-append before (tries_of rs) (start rule p)) C.follows.leaves in
    let I : Invariant p w = rw here at (reached rule p r (before ++ lines_of (map round_stretch rs)) (rw here v)) in
    record {
      follows = rounds-more (replay before (start rule p)) w rs C.follows;
      exact = rw (map-append round_stretch rs (round_of w ∷ []))
          (exactly-append rule p before (map round_stretch rs) (s ∷ []) C.exact
          (λ m. from-full rule p _ _ (rw here (counted-full p w I b m)), λ F. full-counted w (rw here at (to-full rule p _ _ F)), tt));
      returned = rw (map-append round_stretch rs (round_of w ∷ []), marked_append (map round_stretch rs) (s ∷ []), C.returned)
          (omega arith);
    }

-- a run from any network that is reached
pub run-counted : (rule : ℕ) (p : Problem) → in_range p ≡ true → (before : List Line) (k : ℕ)
    → Counted rule p before (run k (replay before (start rule p))).made (run k (replay before (start rule p))).rounds
    (run k (replay before (start rule p))).network
unfolding marked_in
run-counted rule p r before k =
    kept-by-rounds (Counted rule p before) (counted-more rule p r before) k (replay before (start rule p))
    (record { follows = rounds-none (replay before (start rule p)); exact = tt; returned = refl })

pub run-counts : EveryProblem RunsCount
run-counts rule _ p r calls k =
    let C = run-counted rule p r (tried_by_all calls (start rule p)) k in
    let e = calls-replay calls (start rule p) in
    record { cuts = lines-tries _; exact = rw e C.exact; returned = rw e C.returned }
