-- The start has the invariant: nothing is known yet, so every record is good, and each linked pair is up to date once its Info is in.
use Rattle.std.proofs.Common.{◌≡◌, refl, inl, inr, true, ℕ, ◌≤◌}
use Rattle.model_base.proofs.Tests.{test, no-some, within-true}
use Rattle.model_base.proofs.Lists.{All}
use Rattle.model_sheet.specs.Problem.{Problem, linked, in_range, Obeys}
use Rattle.model_sheet.proofs.Range.{Ranged, ranged, linked-inside}
use Rattle.model_agent.specs.Sorts.{seen, after_one}
use Rattle.model_agent.proofs.Assignments.{unknown}
use Rattle.theorems_agent.specs.Facts.{Good}
use Rattle.model_network.specs.Network.{self_of, bans_of, begun, start_agent, start_channel, start}
use Rattle.theorems_shape.proofs.Start.{
  begins,
  start-running,
  agent-in,
  linked-listens,
  linked-informs,
  listens-linked,
  informs-linked,
  linked-channel,
  unlinked-channel,
}
use Rattle.theorems_network.proofs.Moves.{Waits, Linked, Invariant}

module _ (rule : ℕ) (p : Problem) (r : Ranged p) where
  good : (i : ℕ) → 1 ≤ i → i ≤ p.count → Good (Obeys p) (self_of rule p i) (bans_of p i) (begun rule p i).agent
  unfolding self_of
  good i l h =
      let b = begins rule p r i l h in
      let (low, high) = within-true _ (begun rule p i).agent.value b.owned in
      record {
        low = low;
        high = high;
        kept = b.kept;
        free = λ k q. unknown (rw (b.view k) at q.0);
        fresh = b.nogoods (begun rule p i).agent.value;
        agree = λ v lhs e. no-some (rw (b.nogoods v) at e);
        implied = λ v lhs e. no-some (rw (b.nogoods v) at e);
        viewed = λ k n. unknown (rw (b.view k) at n);
        upward = λ k e. let q = linked-inside p r k i (rw b.listened at e) in (q.0, q.1);
      }

  waits : (x y : ℕ) → All (Waits p (start_agent rule p) x y) (start_channel rule p x y)
  waits x y =
      test (linked p x y)
      (λ e. rw (linked-channel rule p r x y e) (linked-listens rule p r x y e, tt))
      (λ e. rw (unlinked-channel rule p r x y e) tt)

  paired : (x y : ℕ) → linked p x y ≡ true
      → Linked ((start_agent rule p x).informs y) ((start_agent rule p y).view x) (start_agent rule p x).value
      (start_channel rule p x y) (start_channel rule p y x)
  unfolding seen after_one
  paired x y e = inr (linked-informs rule p r x y e, inl (rw (linked-channel rule p r x y e) refl))

pub start-invariant : (rule : ℕ) (p : Problem) → in_range p ≡ true → Invariant p (start rule p)
unfolding start
start-invariant rule p e =
    let r = ranged p e in
    record {
      problem = refl;
      running = start-running rule p r;
      good = λ i l h. rw (agent-in rule p r i l h) (good rule p r i l h);
      links = record {
        informed = λ x y n. linked-listens rule p r x y (informs-linked rule p r x y n);
        lower = λ y x n. linked-inside p r x y (listens-linked rule p r x y n);
        linked = linked-listens rule p r;
        waiting = waits rule p r;
        pair = λ x y n. paired rule p r x y (listens-linked rule p r x y n);
      };
    }
