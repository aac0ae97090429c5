-- The walk over the own values ("goes through its own slots upward"): the value taken is free, and where none is taken every value has a nogood.
-- A stored nogood stays; a new one names a single agent, whose known value bars the own value.
use Rattle.std.proofs.Common.{None, Option, Some, ◌≡◌, refl, sym, ◌∙◌, ◌⊎◌, inl, inr, ⊎_elim, Bool, true, false, ◌&&◌, ℕ, zero, suc, ◌+◌, ◌≤◌, ◌<◌, arith}
use mathlib.Core.Bool.{false≢true}
use Rattle.model_base.specs.Finite.{at, lowest, is_some}
use Rattle.model_base.proofs.Tests.{opt, no-some, is_some-false, is_some-true, both, to_both, eq_test}
use Rattle.model_base.proofs.Search.{lowest-some, lowest-none, at_same, at_other}
use Rattle.model_agent.specs.Message.{Assignment, known}
use Rattle.model_agent.specs.Agent.{Self, Bans, Nogoods, above}
use Rattle.model_agent.specs.Choosing.{bars, named, blame, only, blaming, reason_of, reason, Choice, choose}
use Rattle.model_agent.specs.Receiving.{conflicts}
use Rattle.model_agent.proofs.Assignments.{to-above}
use Rattle.theorems_agent.specs.Facts.{Barred}

-- the bans name agents above
abbrev pub Upward : Self → Bans → Type 0
Upward s bans = (k v w : ℕ) → bans k v w ≡ true → (1 ≤ k) × (k < s.number)

-- ---- who bars a value

bars-is : (bans : Bans) (view : Assignment) (v k : ℕ) → bars bans view v k ≡ true → Barred bans view v k
unfolding bars
bars-is bans view v k e = both (known (view k)) (bans k (view k) v) e

to-bars : (bans : Bans) (view : Assignment) (v k : ℕ) → Barred bans view v k → bars bans view v k ≡ true
unfolding bars
to-bars bans view v k b = to_both (known (view k)) (bans k (view k) v) b.0 b.1

-- the own value is banned, or it is not
pub conflicts-true : (s : Self) (bans : Bans) (view : Assignment) (v : ℕ) → conflicts s bans view v ≡ true
    → (k : ℕ) × Barred bans view v k
unfolding conflicts
conflicts-true s bans view v e =
    let (k, q) = is_some-true (lowest (above s) 1 (bars bans view v)) e in
    (k, bars-is bans view v k (lowest-some (above s) 1 (bars bans view v) k q))

pub conflicts-false : (s : Self) (bans : Bans) (view : Assignment) → Upward s bans → (v : ℕ) → conflicts s bans view v ≡ false
    → (k : ℕ) → Barred bans view v k → ⊥
unfolding conflicts
conflicts-false s bans view up v e k b =
    let (l, h) = up k (view k) v b.1 in
    let None = is_some-false _ e in
    false≢true
    (sym (lowest-none (above s) 1 (bars bans view v) None k l (omega (arith, to-above s k h))) ∙ to-bars bans view v k b)

-- ---- whom to blame

module _ (s : Self) (bans : Bans) (view : Assignment) (nogoods : Nogoods) (v : ℕ) where
  -- who bars the value and is named already
  known-bar : ℕ → Bool
  known-bar k = bars bans view v k && named s nogoods k

  pub blame-some : (k : ℕ) → blame s bans view nogoods v ≡ Some k → Barred bans view v k
  unfolding blame known-bar
  blame-some k e =
      bars-is bans view v k
      (opt (lowest (above s) 1 known-bar)
      (λ n. lowest-some (above s) 1 (bars bans view v) k (rw (n, blame) at e))
      (λ j n.
      let q : Some j ≡ Some k = rw (n, blame) at e in
      let w : j ≡ k = cc in
      rw (← w) (both (bars bans view v j) (named s nogoods j) (lowest-some (above s) 1 known-bar j n)).0))

  -- where nobody is to blame, the value is not banned
  blame-none : blame s bans view nogoods v ≡ None → conflicts s bans view v ≡ false
  unfolding blame conflicts is_some known-bar
  blame-none e =
      opt (lowest (above s) 1 known-bar)
      (λ n. let q : lowest (above s) 1 (bars bans view v) ≡ None = rw (n, blame) at e in rw q)
      (λ j n. no-some (sym (rw (n, blame) at e)))

-- a value tried is free
reason-none : (view : Assignment) (o : Option Assignment) (b : Option ℕ) → reason_of o (blaming view b) ≡ None → (o ≡ None) × (b ≡ None)
unfolding reason_of blaming
reason-none view None None e = (refl, refl)
reason-none view None (Some k) e = no-some (sym e)
reason-none view (Some lhs) b e = no-some (sym e)

-- it is not: its nogood was stored, or it is barred
reason-some : (view : Assignment) (o : Option Assignment) (b : Option ℕ) (lhs : Assignment) → reason_of o (blaming view b) ≡ Some lhs
    → (o ≡ Some lhs) ⊎ ((k : ℕ) × (b ≡ Some k) × (only k (view k) ≡ lhs))
unfolding reason_of blaming
reason-some view None None lhs e = no-some e
reason-some view None (Some k) lhs e = let y : only k (view k) ≡ lhs = cc in inr (k, refl, y)
reason-some view (Some l) b lhs e = inl e

-- ---- the walk

-- what a walk over m values from v on, with these nogoods before it, gives
pub record Walked (s : Self) (bans : Bans) (view : Assignment) (m v : ℕ) (before : Nogoods) (c : Choice) : Type 0 where
  pub given : (w : ℕ) (lhs : Assignment) → c.nogoods w ≡ Some lhs
      → (before w ≡ Some lhs) ⊎ ((v ≤ w) × (w < v + m) × (k : ℕ) × Barred bans view w k × (only k (view k) ≡ lhs))
  pub grows : (w : ℕ) → is_some (before w) ≡ true → is_some (c.nogoods w) ≡ true
  pub taken : (w : ℕ) → c.value ≡ Some w → (v ≤ w) × (w < v + m) × (c.nogoods w ≡ None) × (conflicts s bans view w ≡ false)
  pub full : c.value ≡ None → (w : ℕ) → v ≤ w → w < v + m → is_some (c.nogoods w) ≡ true

pub walked : (s : Self) (bans : Bans) (view : Assignment) (m v : ℕ) (before : Nogoods)
    → Walked s bans view m v before (choose m v s bans view before)
unfolding choose reason is_some
walked s bans view zero v before =
    record { given = λ w lhs e. inl e; grows = λ w h. h; taken = λ w e. no-some e; full = λ _ w l h. absurd (omega arith) }
walked s bans view (suc m) v before =
    opt (reason s bans view before v)
    (λ e. rw (e, choose)
    (let (n, b) = reason-none view (before v) (blame s bans view before v) e in
    record {
      given = λ w lhs h. inl h;
      grows = λ w h. h;
      taken = λ w h. let q : v ≡ w = cc in rw (← q) (omega arith, omega arith, n, blame-none s bans view before v b);
      full = λ h. no-some (sym h);
    }))
    (λ lhs e. rw (e, choose)
    (tried lhs e (choose m (suc v) s bans view (at before v (Some lhs))) (walked s bans view m (suc v) (at before v (Some lhs)))))
  where
    tried : (l : Assignment) → reason s bans view before v ≡ Some l → (c : Choice) → Walked s bans view m (suc v) (at before v (Some l)) c
        → Walked s bans view (suc m) v before c
    tried l e c W =
        record {
          given = λ w lhs h.
              ⊎_elim
              (λ q. eq_test w v
              (λ u.
              let z : Some l ≡ Some lhs = rw (u, at_same) at q in
              rw u
              (⊎_elim (λ o. inl o) (λ (k, b, o). inr (omega arith, omega arith, k, blame-some s bans view before v k b, o))
              (reason-some view (before v) (blame s bans view before v) lhs (e ∙ z))))
              (λ u. inl (rw (at_other before v (Some l) w u) at q)))
              (λ (low, high, k, b, o). inr (omega arith, omega arith, k, b, o))
              (W.given w lhs h);
          grows = λ w h. W.grows w
              (eq_test w v (λ u. rw (u, at_same)) (λ u. rw (at_other before v (Some l) w u) h));
          taken = λ w h. let (a, b, n, f) = W.taken w h in (omega arith, omega arith, n, f);
          full = λ h w a b.
              eq_test w v (λ u. W.grows w (rw (u, at_same))) (λ u. W.full h w (omega arith) (omega arith));
        }
