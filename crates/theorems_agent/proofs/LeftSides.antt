-- What the tests of a left side say: that it agrees with a view, that a refusal with it holds, and which of its agents are newly listened to. And
-- what is left of a stored one where those that disagree, or name an agent, are dropped.
use Rattle.std.proofs.Common.{None, Option, Some, ◌≡◌, sym, ◌∙◌, true, false, ℕ, ◌≤◌, ◌<◌, eqb, eqb-true, eq-eqb}
use mathlib.Core.Bool.{and-false, false≢true}
use Rattle.model_base.specs.Finite.{at}
use Rattle.model_base.proofs.Tests.{test, no-some, both, to_both, not-true, eq_test}
use Rattle.model_base.proofs.Search.{all_to-at, to-all_to, at_other}
use Rattle.model_agent.specs.Message.{Assignment, known}
use Rattle.model_agent.specs.Agent.{Self, Agent, above, agrees}
use Rattle.model_agent.specs.Choosing.{drop_if, without}
use Rattle.model_agent.specs.Receiving.{keep_if, agreeing, matches, holds, unheard, accepting}
use Rattle.model_agent.proofs.Assignments.{to-above}

-- ---- agreeing with a view

pub agrees_at : (s : Self) (view lhs : Assignment) → agrees s view lhs ≡ true → (k : ℕ) → 1 ≤ k → k < s.number → known (lhs k) ≡ true
    → lhs k ≡ view k
unfolding agrees
agrees_at s view lhs e k l h n = eqb-true (lhs k) (view k) (rw n at (all_to-at (above s) _ e k l (to-above s k h)))

pub to-agrees : (s : Self) (view lhs : Assignment) → ((k : ℕ) → known (lhs k) ≡ true → lhs k ≡ view k) → agrees s view lhs ≡ true
unfolding agrees
to-agrees s view lhs f =
    to-all_to (above s) _
    (λ k l h. test (known (lhs k)) (λ n. rw n (eq-eqb (lhs k) (view k) (f k n))) (λ n. rw n))

-- ---- what dropping leaves

pub agreeing-some : (s : Self) (view : Assignment) (o : Option Assignment) (lhs : Assignment) → agreeing s view o ≡ Some lhs
    → (o ≡ Some lhs) × (agrees s view lhs ≡ true)
unfolding agreeing keep_if
agreeing-some s view None lhs e = no-some e
agreeing-some s view (Some l) lhs e =
    test (agrees s view l)
    (λ u. let z : Some l ≡ Some lhs = rw u at e in let y : l ≡ lhs = cc in (z, rw (← y) u))
    (λ u. no-some (rw u at e))

pub without-some : (k : ℕ) (o : Option Assignment) (lhs : Assignment) → without k o ≡ Some lhs → (o ≡ Some lhs) × (known (lhs k) ≡ false)
unfolding without drop_if
without-some k None lhs e = no-some e
without-some k (Some l) lhs e =
    test (known (l k))
    (λ u. no-some (rw u at e))
    (λ u. let z : Some l ≡ Some lhs = rw u at e in let y : l ≡ lhs = cc in (z, rw (← y) u))

-- a left side that does not name agent k has of others what it had
pub forgotten : (view lhs : Assignment) (k j : ℕ) → known (lhs k) ≡ false → known (lhs j) ≡ true → lhs j ≡ view j → lhs j ≡ at view k 0 j
forgotten view lhs k j away n e =
    eq_test j k
    (λ u. absurd (false≢true (sym away ∙ rw u at n)))
    (λ u. e ∙ sym (at_other view k 0 j u))

-- ---- a refusal that holds

pub unheard-true : (a : Agent) (lhs : Assignment) (k : ℕ) → unheard a lhs k ≡ true → (known (lhs k) ≡ true) × (a.listens k ≡ false)
unfolding unheard
unheard-true a lhs k e = let h = both (known (lhs k)) _ e in (h.0, not-true _ h.1)

pub to-unheard : (a : Agent) (lhs : Assignment) (k : ℕ) → known (lhs k) ≡ true → a.listens k ≡ false → unheard a lhs k ≡ true
unfolding unheard
to-unheard a lhs k n l = rw (n, l)

pub holds-value : (s : Self) (a : Agent) (lhs : Assignment) (v : ℕ) → holds s a lhs v ≡ true → v ≡ a.value
unfolding holds
holds-value s a lhs v e = eqb-true v a.value (both (eqb v a.value) _ e).0

holds_at : (s : Self) (a : Agent) (lhs : Assignment) (v : ℕ) → holds s a lhs v ≡ true → (k : ℕ) → 1 ≤ k → k < s.number
    → known (lhs k) ≡ true → a.listens k ≡ true → lhs k ≡ a.view k
unfolding holds matches
holds_at s a lhs v e k low high n l =
    let all = (both (eqb v a.value) _ e).1 in
    eqb-true (lhs k) (a.view k) (rw (n, l) at (all_to-at (above s) _ all k low (to-above s k high)))

pub to-holds : (s : Self) (a : Agent) (lhs : Assignment) (v : ℕ) → v ≡ a.value
    → ((x : ℕ) → known (lhs x) ≡ true → a.listens x ≡ true → lhs x ≡ a.view x) → holds s a lhs v ≡ true
unfolding holds matches
to-holds s a lhs v e f =
    to_both _ _ (eq-eqb v a.value e)
    (to-all_to (above s) _
    (λ k low high. test (known (lhs k))
    (λ n. test (a.listens k) (λ l. rw (n, l) (eq-eqb (lhs k) (a.view k) (f k n l))) (λ l. rw (n, l)))
    (λ n. rw n)))

-- the view after it, of an agent listened to before and of one that it names
pub view-heard : (a : Agent) (lhs : Assignment) (v k : ℕ) → a.listens k ≡ true → a.view k ≡ (accepting a lhs v).view k
unfolding accepting unheard
view-heard a lhs v k l = rw (l, and-false)

pub view-named : (s : Self) (a : Agent) (lhs : Assignment) (v : ℕ) → holds s a lhs v ≡ true → (k : ℕ) → 1 ≤ k → k < s.number
    → known (lhs k) ≡ true → lhs k ≡ (accepting a lhs v).view k
unfolding accepting unheard
view-named s a lhs v e k low high n =
    test (a.listens k) (λ l. rw (n, l) (holds_at s a lhs v e k low high n l)) (λ l. rw (n, l))
