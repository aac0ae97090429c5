-- How a run ends, and what it keeps: what every round keeps after which a run goes on holds where it ends.
use Rattle.std.proofs.Common.{◌≡◌, refl, true, false, ◌||◌, List, [], ◌∷◌, ◌++◌, ℕ, zero, suc, ◌+◌, ◌≤◌, ◌<◌, arith, length, length-append}
use Rattle.model_base.proofs.Tests.{test, or-false-both}
use Rattle.model_network.specs.Network.{Network}
use Rattle.model_network.specs.Shape.{in_shape}
use Rattle.model_network.specs.Run.{idle, round, is_full, Round, Ran, finish, one_if, is_stuck, run_from, allowed, run}

-- the round that a run makes of w
unfoldable pub round_of : Network → Round
round_of w = record { tried = (round w).tried; full = is_full w (round w) }

-- something about the full rounds made, the rounds and the network
abbrev Fact : Type 1
Fact = ℕ → List Round → Network → Type 0

-- it holds with one round more
abbrev pub After : Fact → ℕ → List Round → Network → Type 0
After P made rounds w = P (made + one_if (round_of w).full) (rounds ++ (round_of w ∷ [])) (round w).network

-- Every round keeps it that a run begins, with no verdict and with something waiting, and after which it goes on.
abbrev pub GoesOnKeeping : Fact → Type 0
GoesOnKeeping P =
    (made : ℕ) (rounds : List Round) (w : Network) → w.unsolvable ≡ false → idle w ≡ false → is_stuck (round w) ≡ false
    → P made rounds w → After P made rounds w

-- every round keeps it that a run begins
abbrev pub RoundKeeps : Fact → Type 0
RoundKeeps P =
    (made : ℕ) (rounds : List Round) (w : Network) → w.unsolvable ≡ false → idle w ≡ false → P made rounds w → After P made rounds w

-- A run ends with a verdict or with nothing waiting, with all the rounds used that it may use, or after a round that delivered nothing.
pub data Ends (P : Fact) (most : ℕ) (x : Ran) : Type 0 where
  rests : (made : ℕ) (rounds : List Round) (w : Network) → P made rounds w → w.unsolvable || idle w ≡ true → length rounds ≤ most
      → x ≡ finish w made rounds false → Ends P most x
  used : (made : ℕ) (rounds : List Round) (w : Network) → P made rounds w → length rounds ≡ most → x ≡ finish w made rounds false → Ends P most x
  stops : (made : ℕ) (rounds : List Round) (w : Network) → P made rounds w → w.unsolvable ≡ false → idle w ≡ false
      → is_stuck (round w) ≡ true → length rounds < most
      → x ≡ finish (round w).network (made + one_if (round_of w).full) (rounds ++ (round_of w ∷ [])) true → Ends P most x

ends-from : (P : Fact) → GoesOnKeeping P → (most left made : ℕ) (rounds : List Round) (w : Network) → length rounds + left ≡ most
    → P made rounds w → Ends P most (run_from left made rounds w)
unfolding run_from round_of
ends-from P K most zero made rounds w e h = used made rounds w h (omega arith) refl
ends-from P K most (suc left) made rounds w e h =
    test (w.unsolvable || idle w)
    (λ t. rests made rounds w h t (omega arith) (rw (t, run_from)))
    (λ t. let o = or-false-both w.unsolvable (idle w) t in
    test (is_stuck (round w))
    (λ f. stops made rounds w h o.0 o.1 f (omega arith) (rw (t, run_from, f)))
    (λ f. rw (t, run_from, f) (ends-from P K most left _ _ (round w).network (omega (arith, length-append rounds (round_of w ∷ [])))
    (K made rounds w o.0 o.1 f h))))

-- a run on a network in shape
pub run_ends : (P : Fact) → GoesOnKeeping P → (k : ℕ) (w : Network) → in_shape w ≡ true → P 0 [] w → Ends P (allowed k) (run k w)
unfolding run
run_ends P K k w s h = rw (s, run) (ends-from P K (allowed k) (allowed k) 0 [] w (omega arith) h)

-- what every round keeps, a run keeps
pub kept-by-rounds : (P : Fact) → RoundKeeps P → (k : ℕ) (w : Network) → P 0 [] w
    → P (run k w).made (run k w).rounds (run k w).network
unfolding run finish
kept-by-rounds P K k w h =
    test (in_shape w) (λ s. go (run_ends P (λ made rounds w v i _ h. K made rounds w v i h) k w s h)) (λ s. rw (s, run) h)
  where
    go : Ends P (allowed k) (run k w) → P (run k w).made (run k w).rounds (run k w).network
    go (rests made rounds w' p _ _ e) = rw e p
    go (used made rounds w' p _ e) = rw e p
    go (stops made rounds w' p v i _ _ e) = rw e (K made rounds w' v i p)
