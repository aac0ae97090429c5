-- Every sheet is refused with 1 to 4, or ends in one of the four words with at most 100,000 full rounds.
-- A sheet that is not refused starts a network in shape; a run on one is not refused, and no round of it is full twice.
use Rattle.std.proofs.Common.{ℕ, ◌+◌, ◌≤◌, ◌≡◌, refl, Bool, true, false, List, [], ◌∷◌, arith, length, length-append}
use Rattle.model_base.specs.Finite.{within}
use Rattle.model_base.proofs.Tests.{test}
use Rattle.model_sheet.specs.Sheet.{BadLength, BadHeader, BadRecord, Cycle, fault_number, Decoded, Valid, Invalid, decode}
use Rattle.model_sheet.proofs.Sheet.{decode-in-range}
use Rattle.model_network.specs.Network.{Network, start, is_rule, started_on, start_sheet}
use Rattle.model_network.specs.Shape.{in_shape}
use Rattle.model_network.specs.Run.{one_if, idle, ending_at, finish, Round, Ran, max_rounds, allowed, run}
use Rattle.model_network.proofs.Rounds.{one_at_most}
use Rattle.theorems_shape.proofs.Shape.{start-in-shape}
use Rattle.theorems_shape.proofs.Runs.{round_of, Ends, rests, used, stops, run_ends}
use Rattle.model_season.specs.Season.{season_rule, season_rounds, outcome_by, outcome, place}
use Rattle.model_season.specs.Claims.{Known, EachKnown}

-- ---- a run

pub record Settled (most : ℕ) (r : Ran) : Type 0 where
  pub word : 1 ≤ place r.ending
  pub last : place r.ending ≤ 4
  pub few : r.made ≤ most

finished : (most : ℕ) (w : Network) (made : ℕ) (rounds : List Round) (stuck : Bool) → made ≤ most → Settled most (finish w made rounds stuck)
unfolding finish ending_at place
finished most w made rounds stuck h =
    test w.unsolvable
    (λ t. record { word = rw (t, ending_at) (omega arith); last = rw (t, ending_at) (omega arith); few = h })
    (λ t. test (idle w)
    (λ u. record { word = rw (t, ending_at, u) (omega arith); last = rw (t, ending_at, u) (omega arith); few = h })
    (λ u. test stuck
    (λ v. record { word = rw (t, ending_at, u, v) (omega arith); last = rw (t, ending_at, u, v) (omega arith); few = h })
    (λ v. record { word = rw (t, ending_at, u, v) (omega arith); last = rw (t, ending_at, u, v) (omega arith); few = h })))

settled : (k : ℕ) (w : Network) → in_shape w ≡ true → Settled (allowed k) (run k w)
settled k w s =
    go (run_ends (λ made rounds _. made ≤ length rounds)
    (λ made rounds v _ _ _ h. omega (arith, one_at_most (round_of v).full, length-append rounds (round_of v ∷ []))) k w s (omega arith))
  where
    go : Ends (λ made rounds _. made ≤ length rounds) (allowed k) (run k w) → Settled (allowed k) (run k w)
    go (rests made rounds v p _ l e) = rw e (finished (allowed k) v made rounds false (omega arith))
    go (used made rounds v p l e) = rw e (finished (allowed k) v made rounds false (omega arith))
    go (stops made rounds v p _ _ _ l e) =
        rw e (finished (allowed k) _ (made + one_if (round_of v).full) _ true (omega (arith, one_at_most (round_of v).full)))

-- ---- a sheet

started-known : (sheet : List ℕ) (d : Decoded) → decode sheet ≡ d
    → Known (outcome_by (started_on 1 d).number (run 100000 (started_on 1 d).network))
unfolding started_on outcome_by fault_number is_rule within allowed max_rounds season_rounds
started-known sheet (Valid p) e =
    let s = settled 100000 (start 1 p) (start-in-shape 1 refl p (decode-in-range sheet p e)) in (s.word, s.last, s.few)
started-known sheet (Invalid BadLength) e = (omega arith, omega arith)
started-known sheet (Invalid BadHeader) e = (omega arith, omega arith)
started-known sheet (Invalid BadRecord) e = (omega arith, omega arith)
started-known sheet (Invalid Cycle) e = (omega arith, omega arith)

pub each-known : EachKnown
unfolding outcome season_rule season_rounds start_sheet is_rule within
each-known sheet = started-known sheet (decode sheet) refl
