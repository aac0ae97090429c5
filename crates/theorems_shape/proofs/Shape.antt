-- A network in shape stays in shape, forged ones too, whether it is delivered or run: a run is nothing but deliveries.
use Rattle.std.proofs.Common.{◌≡◌, List, [], ◌∷◌, true, ℕ}
use Rattle.model_base.proofs.Tests.{test}
use Rattle.model_network.specs.Network.{Network}
use Rattle.model_network.specs.Shape.{in_shape}
use Rattle.model_network.specs.Run.{Line, Sweep, begin_round, tally, skipped, attempt, sweep, round, visits, run}
use Rattle.theorems_shape.proofs.Runs.{kept-by-rounds}
pub use Rattle.theorems_shape.proofs.DeliverShape.{deliver-keeps}
pub use Rattle.theorems_shape.proofs.StartShape.{start-in-shape}

pub attempt-keeps : (s : Sweep) (l : Line) → in_shape s.network ≡ true → in_shape (attempt s l).network ≡ true
unfolding attempt tally
attempt-keeps s l h =
    test (skipped s l) (λ e. rw (e, attempt) h) (λ e. rw (e, attempt) (deliver-keeps s.network l.from l.to h))

pub sweep-keeps : (s : Sweep) (ls : List Line) → in_shape s.network ≡ true → in_shape (sweep s ls).network ≡ true
unfolding sweep
sweep-keeps s [] h = h
sweep-keeps s (l ∷ ls) h = sweep-keeps (attempt s l) ls (attempt-keeps s l h)

pub round_keeps : (w : Network) → in_shape w ≡ true → in_shape (round w).network ≡ true
unfolding round begin_round
round_keeps w h = sweep-keeps (begin_round w) (visits w) h

-- a run keeps the shape
pub run-keeps : (k : ℕ) (w : Network) → in_shape w ≡ true → in_shape (run k w).network ≡ true
run-keeps = kept-by-rounds (λ _ _ w. in_shape w ≡ true) (λ _ _ w _ _ h. round_keeps w h)
