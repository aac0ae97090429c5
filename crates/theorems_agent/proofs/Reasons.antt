-- Nogoods that agree with the view and are implied stay so when the agent chooses and when it forgets an agent.
-- Where every own value has one, no assignment that counts extends the join of their left sides: so a Back made of it is implied.
use Rattle.std.proofs.Common.{Some, ◌≡◌, refl, sym, ap, ◌∙◌, ⊎_elim, true, ℕ, zero, suc, ◌≤◌, arith}
use mathlib.Core.Bool.{false≢true}
use Rattle.model_base.specs.Finite.{at, is_some}
use Rattle.model_base.proofs.Tests.{test, opt, is_some-true, within-true, eq_test}
use Rattle.model_base.proofs.Search.{at_same, at_other}
use Rattle.model_agent.specs.Message.{Assignment, known, nobody}
use Rattle.model_agent.specs.Agent.{Self, Bans, Nogoods}
use Rattle.model_agent.specs.Choosing.{only, Choice, join, lhs_of, union, without}
use Rattle.model_agent.proofs.Assignments.{unknown}
use Rattle.theorems_agent.specs.Facts.{Barred, Extends, Excludes, Setting}
use Rattle.theorems_agent.proofs.LeftSides.{without-some, forgotten}
use Rattle.theorems_agent.proofs.Walk.{Walked}

-- nogoods that agree with a view and are implied
pub record Sound (S : Assignment → Type 0) (s : Self) (view : Assignment) (nogoods : Nogoods) : Type 0 where
  pub agree : (v : ℕ) (lhs : Assignment) → nogoods v ≡ Some lhs → (k : ℕ) → known (lhs k) ≡ true → lhs k ≡ view k
  pub implied : (v : ℕ) (lhs : Assignment) → nogoods v ≡ Some lhs → Excludes S s.number v lhs

-- ---- choosing

only-known : (j v k : ℕ) → known (only j v k) ≡ true → (k ≡ j) × (only j v k ≡ v)
unfolding only nobody
only-known j v k h =
    eq_test k j (λ u. (u, rw u (at_same nobody j v))) (λ u. unknown (rw (at_other nobody j v k u) at h))

pub only-agrees : (view : Assignment) (j : ℕ) (lhs : Assignment) → only j (view j) ≡ lhs
    → (k : ℕ) → known (lhs k) ≡ true → lhs k ≡ view k
only-agrees view j lhs e k h = let (q, o) = only-known j (view j) k (rw (← e) at h) in rw (← e) (o ∙ ap view (sym q))

module _ (S : Assignment → Type 0) (s : Self) (bans : Bans) (problem : Setting S s bans) where
  -- an agent's known value that bars an own value excludes it
  only-implied : (view : Assignment) (v j : ℕ) → Barred bans view v j → (lhs : Assignment) → only j (view j) ≡ lhs
      → Excludes S s.number v lhs
  unfolding only
  only-implied view v j b lhs e σ counts extends at-v =
      let named : lhs j ≡ view j = rw (← e) (at_same nobody j (view j)) in
      let σ-j : σ j ≡ view j = extends j (rw named b.0) ∙ named in
      false≢true (sym (rw (σ-j, at-v) at ((problem.respects σ counts).obeys j)) ∙ b.1)

  pub walked-sound : (view : Assignment) (m v : ℕ) (before : Nogoods) (c : Choice)
      → Sound S s view before → Walked s bans view m v before c → Sound S s view c.nogoods
  walked-sound view m v before c N W =
      record {
        agree = λ w lhs e.
            ⊎_elim (λ q. N.agree w lhs q) (λ (_, _, j, b, q). only-agrees view j lhs q) (W.given w lhs e);
        implied = λ w lhs e.
            ⊎_elim (λ q. N.implied w lhs q) (λ (_, _, j, b, q). only-implied view w j b lhs q) (W.given w lhs e);
      }

-- ---- the join

pub union-view : (m : ℕ) (nogoods : Nogoods) (view : Assignment) (k : ℕ)
    → ((v : ℕ) (lhs : Assignment) → 1 ≤ v → v ≤ m → nogoods v ≡ Some lhs → known (lhs k) ≡ true → lhs k ≡ view k)
    → known (union m nogoods k) ≡ true → union m nogoods k ≡ view k
unfolding union join lhs_of nobody
union-view zero nogoods view k agree h = unknown h
union-view (suc m) nogoods view k agree h =
    test (known (union m nogoods k))
    (λ e. rw e (union-view m nogoods view k (λ v lhs l u. agree v lhs l (omega arith)) e))
    (λ e. opt (nogoods (suc m))
    (λ n. unknown (rw (e, n) at h))
    (λ lhs n. rw (e, n) (agree (suc m) lhs (omega arith) (omega arith) n (rw (e, n) at h))))

union-names : (m : ℕ) (nogoods : Nogoods) (v : ℕ) (lhs : Assignment) (k : ℕ) → 1 ≤ v → v ≤ m → nogoods v ≡ Some lhs
    → known (lhs k) ≡ true → known (union m nogoods k) ≡ true
unfolding union join lhs_of
union-names zero nogoods v lhs k l u e h = absurd (omega arith)
union-names (suc m) nogoods v lhs k l u e h =
    test (known (union m nogoods k))
    (λ q. rw q q)
    (λ q. eq_test v (suc m)
    (λ w. let n : nogoods (suc m) ≡ Some lhs = rw w at e in rw (q, n) h)
    (λ w. absurd (false≢true (sym q ∙ union-names m nogoods v lhs k l (omega arith) e h))))

-- every own value has a nogood
abbrev pub NoneFree : Self → Nogoods → Type 0
NoneFree s nogoods = (v : ℕ) → 1 ≤ v → v ≤ s.domain → is_some (nogoods v) ≡ true

module _ (S : Assignment → Type 0) (s : Self) (bans : Bans) (problem : Setting S s bans) (view : Assignment) (nogoods : Nogoods) where
  pub no_value : Sound S s view nogoods → NoneFree s nogoods → (σ : Assignment) → S σ → Extends (union s.domain nogoods) σ → ⊥
  no_value N full σ counts extends =
      let own = σ s.number in
      let (l, h) = within-true s.domain own (problem.respects σ counts).owned in
      let (lhs, e) = is_some-true (nogoods own) (full own l h) in
      N.implied own lhs e σ counts
      (λ k n.
      let named = union-names s.domain nogoods own lhs k l h e n in
      extends k named
      ∙ union-view s.domain nogoods view k (λ v r _ _ q. N.agree v r q k) named
      ∙ sym (N.agree own lhs e k n))
      refl

  -- the Back to agent k
  pub back-implied : Sound S s view nogoods → NoneFree s nogoods → (k : ℕ)
      → Excludes S k (union s.domain nogoods k) (at (union s.domain nogoods) k 0)
  back-implied N full k σ counts extends at-k =
      no_value N full σ counts
      (λ j n. eq_test j k
      (λ u. rw u at-k)
      (λ u. let o = at_other (union s.domain nogoods) k 0 j u in extends j (rw o n) ∙ o))

-- ---- forgetting

pub forget-sound : (S : Assignment → Type 0) (s : Self) (view : Assignment) (nogoods : Nogoods) (k : ℕ)
    → Sound S s view nogoods → Sound S s (at view k 0) (λ v. without k (nogoods v))
forget-sound S s view nogoods k N =
    record {
      agree = λ v lhs e j n.
          let (stored, away) = without-some k (nogoods v) lhs e in forgotten view lhs k j away n (N.agree v lhs stored j n);
      implied = λ v lhs e. N.implied v lhs (without-some k (nogoods v) lhs e).0;
    }
