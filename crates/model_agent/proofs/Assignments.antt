-- What is known in an assignment, which agents are above, and of how many agents something is known.
-- Forgetting one agent makes the number of known ones less by one: this is what bounds backing up.
use Rattle.std.proofs.Common.{◌≡◌, refl, sym, ◌∙◌, true, false, cond, ℕ, zero, suc, pred, ◌+◌, ◌≤◌, ◌<◌, arith, ltb-false}
use mathlib.Core.Bool.{false≢true}
use Rattle.model_base.specs.Finite.{at}
use Rattle.model_base.proofs.Tests.{test, eq_test}
use Rattle.model_base.proofs.Search.{at_same, at_other}
use Rattle.model_sheet.specs.Problem.{max_agents}
use Rattle.model_agent.specs.Message.{Assignment, known}
use Rattle.model_agent.specs.Agent.{Self, above}
use Rattle.model_agent.specs.Shape.{max_named}

pub known-zero : known 0 ≡ false
unfolding known
known-zero = refl

pub unknown : {X : Type 0} → known 0 ≡ true → X
unknown e = absurd (false≢true (sym known-zero ∙ e))

pub unknown-zero : (v : ℕ) → known v ≡ false → v ≡ 0
unfolding known
unknown-zero v e = omega (arith, ltb-false 0 v e)

-- ---- the agents above

pub above-is : (s : Self) → above s ≡ pred s.number
unfolding above
above-is s = refl

pub to-above : (s : Self) (k : ℕ) → k < s.number → k ≤ above s
to-above s k h = omega (arith, above-is s)

pub agents-named : max_agents ≤ max_named
unfolding max_agents max_named
agents-named = omega arith

pub from-above : (s : Self) (k : ℕ) → 1 ≤ s.number → k ≤ above s → k < s.number
from-above s k l h = omega (arith, above-is s)

-- ---- the agents 1 to m with a known value

pub known_to : ℕ → Assignment → ℕ
known_to zero view = 0
known_to (suc m) view = cond (known (view (suc m))) 1 0 + known_to m view

pub known_to-le : (m : ℕ) (view : Assignment) → known_to m view ≤ m
unfolding known_to
known_to-le zero view = omega arith
known_to-le (suc m) view =
    let ih = known_to-le m view in
    test (known (view (suc m))) (λ e. rw e (omega arith)) (λ e. rw e (omega arith))

known_to-same : (m : ℕ) (view : Assignment) (k : ℕ) → m < k → known_to m (at view k 0) ≡ known_to m view
unfolding known_to
known_to-same zero view k h = refl
known_to-same (suc m) view k h = rw (at_other view k 0 (suc m) (omega arith), known_to-same m view k (omega arith))

pub known_to-less : (m : ℕ) (view : Assignment) (k : ℕ) → 1 ≤ k → k ≤ m → known (view k) ≡ true
    → suc (known_to m (at view k 0)) ≡ known_to m view
unfolding known_to known
known_to-less zero view k l h e = absurd (omega arith)
known_to-less (suc m) view k l h e =
    eq_test k (suc m)
    (λ u.
    let e' : known (view (suc m)) ≡ true = rw u at e in
    rw (u, at_same, e', known_to-same m view (suc m) (omega arith)) (omega arith))
    (λ u.
    let ih = known_to-less m view k l (omega arith) e in
    rw (at_other view k 0 (suc m) (λ x. u (sym x)), ← ih) (omega arith))
