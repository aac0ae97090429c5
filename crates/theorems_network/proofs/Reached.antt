-- Every network reached from the start has the invariant, with whatever more every move keeps, or a verdict stands and no assignment obeys all
-- bans. By induction over the tries: a rejected one changes nothing, and after a verdict all are rejected.
use Rattle.std.proofs.Common.{◌≡◌, sym, ◌∙◌, List, [], ◌∷◌, true, false, ℕ}
use mathlib.Core.Bool.{false≢true}
use Rattle.model_base.proofs.Tests.{test}
use Rattle.model_sheet.specs.Problem.{Problem, in_range, Obeys}
use Rattle.model_agent.specs.Message.{Assignment}
use Rattle.model_network.specs.Network.{Network, start}
use Rattle.model_network.specs.Run.{Line}
use Rattle.theorems_network.specs.Calls.{attempt_of, replay}
use Rattle.theorems_network.proofs.Moves.{Move, Invariant, Next, stays, moves, stops}
use Rattle.theorems_network.proofs.Shut.{shut}
use Rattle.theorems_network.proofs.Next.{next}
use Rattle.theorems_network.proofs.Start.{start-invariant}

-- E: what more every move keeps
pub record Reached (p : Problem) (E : Network → Type 0) (w : Network) : Type 0 where
  pub running : w.unsolvable ≡ false → Invariant p w × E w
  pub ended : w.unsolvable ≡ true → (σ : Assignment) → Obeys p σ → ⊥

runs : (p : Problem) (E : Network → Type 0) (w : Network) → Invariant p w → E w → Reached p E w
runs p E w I e = record { running = λ v. (I, e); ended = λ v. absurd (false≢true (sym I.running ∙ v)) }

module _ (p : Problem) (r : in_range p ≡ true) (E : Network → Type 0)
    (kept : (d : Line) (w w' : Network) → Invariant p w → Move p d w w' → E w → E w') where
  tried : (d : Line) (w : Network) → Reached p E w → Reached p E (attempt_of d w).network
  tried d w R = test w.unsolvable (λ v. rw (shut d w v) R) (λ v. go (R.running v) (next p r d w (R.running v).0))
    where
      go : Invariant p w × E w → Next p d w (attempt_of d w) → Reached p E (attempt_of d w).network
      go h (stays q n) = rw q R
      go h (moves ok M J) = runs p E _ J (kept d w (attempt_of d w).network h.0 M h.1)
      go h (stops ok v n) = record { running = λ u. absurd (false≢true (sym u ∙ v)); ended = λ _. n }

  replayed : (ds : List Line) (w : Network) → Reached p E w → Reached p E (replay ds w)
  unfolding replay
  replayed [] w R = R
  replayed (d ∷ ds) w R = replayed ds (attempt_of d w).network (tried d w R)

  pub reach : (rule : ℕ) → E (start rule p) → (ds : List Line) → Reached p E (replay ds (start rule p))
  reach rule e ds = replayed ds (start rule p) (runs p E (start rule p) (start-invariant rule p r) e)

-- with nothing more
pub reach-all : (rule : ℕ) (p : Problem) → in_range p ≡ true → (ds : List Line) → Reached p (λ w. Unit {0}) (replay ds (start rule p))
reach-all rule p r ds = reach p r (λ w. Unit {0}) (λ d w w' I M e. tt) rule tt ds

pub reached : (rule : ℕ) (p : Problem) → in_range p ≡ true → (ds : List Line) → (replay ds (start rule p)).unsolvable ≡ false
    → Invariant p (replay ds (start rule p))
reached rule p r ds v = ((reach-all rule p r ds).running v).0
