-- What a search finds, and what a map has where it was changed.
use Rattle.std.proofs.Common.{None, Some, ◌≡◌, refl, sym, ◌∙◌, ◌≢◌, cond, Bool, true, false, ℕ, zero, suc, ◌+◌, ◌≤◌, ◌<◌, add-zero, add-suc, suc-add, not-suc-le-zero, le_of_suc-le-suc, arith, eqb, leb, eqb-true, eq-eqb, ne_eqb, leb-true, leb-false}
use mathlib.Core.Path.{fun_ext}
use mathlib.Core.Bool.{and-eq-true_iff, false≢true}
use borrow.Author.Tests.{eqb-false}
use Rattle.model_base.specs.Finite.{at, lowest, highest, all_to, greatest}
use Rattle.model_base.proofs.Tests.{test, eq_test, no-some}

-- ---- the lowest of the m numbers from k on

pub lowest-some : (m k : ℕ) (p : ℕ → Bool) (s : ℕ) → lowest m k p ≡ Some s → p s ≡ true
unfolding lowest
lowest-some zero k p s e = no-some e
lowest-some (suc m) k p s e =
    test (p k)
    (λ h. let q : Some k ≡ Some s = rw (h, lowest) at e in let w : k ≡ s = cc in rw (← w) h)
    (λ h. lowest-some m (suc k) p s (rw (h, lowest) at e))

pub lowest-range : (m k : ℕ) (p : ℕ → Bool) (s : ℕ) → lowest m k p ≡ Some s → (k ≤ s) × (s < k + m)
unfolding lowest
lowest-range zero k p s e = no-some e
lowest-range (suc m) k p s e =
    test (p k)
    (λ h. let q : Some k ≡ Some s = rw (h, lowest) at e in let w : k ≡ s = cc in (omega arith, omega arith))
    (λ h. let r = lowest-range m (suc k) p s (rw (h, lowest) at e) in (omega arith, omega arith))

pub lowest-none : (m k : ℕ) (p : ℕ → Bool) → lowest m k p ≡ None → (j : ℕ) → k ≤ j → j < k + m → p j ≡ false
unfolding lowest
lowest-none zero k p e j l h = absurd (omega arith)
lowest-none (suc m) k p e j l h =
    test (p k)
    (λ t. no-some (sym (rw (t, lowest) at e)))
    (λ t. test (eqb j k)
    (λ u. rw (eqb-true j k u) t)
    (λ u. lowest-none m (suc k) p (rw (t, lowest) at e) j (omega (arith, eqb-false j k u)) (omega arith)))

-- ---- the highest of 1 to m

pub highest-some : (m : ℕ) (p : ℕ → Bool) (s : ℕ) → highest m p ≡ Some s → (p s ≡ true) × (1 ≤ s) × (s ≤ m)
unfolding highest
highest-some zero p s e = no-some e
highest-some (suc m) p s e =
    test (p (suc m))
    (λ h. let q : Some (suc m) ≡ Some s = rw (h, highest) at e in let w : suc m ≡ s = cc in (rw (← w) h, omega arith, omega arith))
    (λ h. let r = highest-some m p s (rw (h, highest) at e) in (r.0, r.1, omega arith))

pub highest-none : (m : ℕ) (p : ℕ → Bool) → highest m p ≡ None → (j : ℕ) → 1 ≤ j → j ≤ m → p j ≡ false
unfolding highest
highest-none zero p e j l h = absurd (omega arith)
highest-none (suc m) p e j l h =
    test (p (suc m))
    (λ t. no-some (sym (rw (t, highest) at e)))
    (λ t. test (eqb j (suc m))
    (λ u. rw (eqb-true j (suc m) u) t)
    (λ u. highest-none m p (rw (t, highest) at e) j l (omega (arith, eqb-false j (suc m) u))))

pub highest-max : (m : ℕ) (p : ℕ → Bool) (s : ℕ) → highest m p ≡ Some s → (j : ℕ) → j ≤ m → p j ≡ true → j ≤ s
unfolding highest
highest-max zero p s e j h t = no-some e
highest-max (suc m) p s e j h t =
    test (p (suc m))
    (λ u. let q : Some (suc m) ≡ Some s = rw (u, highest) at e in let w : suc m ≡ s = cc in omega arith)
    (λ u. test (eqb j (suc m))
    (λ w. absurd (false≢true (sym u ∙ rw (eqb-true j (suc m) w) at t)))
    (λ w. highest-max m p s (rw (u, highest) at e) j (omega (arith, eqb-false j (suc m) w)) t))

-- one number further

pub lowest-grows : (m n k : ℕ) (p : ℕ → Bool) (s : ℕ) → m ≤ n → lowest m k p ≡ Some s → lowest n k p ≡ Some s
unfolding lowest
lowest-grows zero n k p s h e = no-some e
lowest-grows (suc m) zero k p s h e = absurd (not-suc-le-zero h)
lowest-grows (suc m) (suc n) k p s h e =
    test (p k)
    (λ t. rw (t, lowest) (rw (t, lowest) at e))
    (λ t. rw (t, lowest) (lowest-grows m n (suc k) p s (le_of_suc-le-suc h) (rw (t, lowest) at e)))

pub lowest-last : (m k : ℕ) (p : ℕ → Bool) → lowest m k p ≡ None → lowest (suc m) k p ≡ cond (p (k + m)) (Some (k + m)) None
unfolding lowest
lowest-last zero k p e = rw add-zero (test (p k) (λ t. rw (t, lowest)) (λ t. rw (t, lowest)))
lowest-last (suc m) k p e =
    test (p k)
    (λ t. no-some (sym (rw (t, lowest) at e)))
    (λ t. rw (t, lowest, add-suc k m, ← suc-add k m) (lowest-last m (suc k) p (rw (t, lowest) at e)))

pub lowest-before : (m k : ℕ) (p : ℕ → Bool) (s j : ℕ) → lowest m k p ≡ Some s → k ≤ j → j < s → p j ≡ false
unfolding lowest
lowest-before zero k p s j e l h = no-some e
lowest-before (suc m) k p s j e l h =
    test (p k)
    (λ t. let q : Some k ≡ Some s = rw (t, lowest) at e in let w : k ≡ s = cc in absurd (omega arith))
    (λ t. test (eqb j k)
    (λ u. rw (eqb-true j k u) t)
    (λ u. lowest-before m (suc k) p s j (rw (t, lowest) at e) (omega (arith, eqb-false j k u)) h))

-- ---- each of 1 to m

pub all_to-at : (m : ℕ) (p : ℕ → Bool) → all_to m p ≡ true → (j : ℕ) → 1 ≤ j → j ≤ m → p j ≡ true
unfolding all_to
all_to-at zero p e j l h = absurd (omega arith)
all_to-at (suc m) p e j l h =
    let b = (and-eq-true_iff (p (suc m)) (all_to m p)).0 e in
    test (eqb j (suc m))
    (λ u. rw (eqb-true j (suc m) u) b.0)
    (λ u. all_to-at m p b.1 j l (omega (arith, eqb-false j (suc m) u)))

pub to-all_to : (m : ℕ) (p : ℕ → Bool) → ((k : ℕ) → 1 ≤ k → k ≤ m → p k ≡ true) → all_to m p ≡ true
unfolding all_to
to-all_to zero p h = refl
to-all_to (suc m) p h = rw (h (suc m) (omega arith) (omega arith), to-all_to m p (λ k l u. h k l (omega arith)))

pub all_to-false : (m : ℕ) (p : ℕ → Bool) → all_to m p ≡ false → (k : ℕ) × (p k ≡ false)
unfolding all_to
all_to-false zero p e = absurd (false≢true (sym e))
all_to-false (suc m) p e = test (p (suc m)) (λ h. all_to-false m p (rw h at e)) (λ h. (suc m, h))

-- ---- the greatest

pub le-greatest : (m : ℕ) (f : ℕ → ℕ) (i : ℕ) → 1 ≤ i → i ≤ m → f i ≤ greatest m f
unfolding greatest
le-greatest zero f i l h = absurd (omega arith)
le-greatest (suc m) f i l h =
    test (leb (f (suc m)) (greatest m f))
    (λ e. rw (e, greatest) (test (eqb i (suc m))
    (λ u. rw (eqb-true i (suc m) u) (leb-true (f (suc m)) (greatest m f) e))
    (λ u. le-greatest m f i l (omega (arith, eqb-false i (suc m) u)))))
    (λ e. rw (e, greatest) (test (eqb i (suc m))
    (λ u. rw (eqb-true i (suc m) u) (omega arith))
    (λ u. omega (arith, le-greatest m f i l (omega (arith, eqb-false i (suc m) u)), leb-false (f (suc m)) (greatest m f) e))))

-- ---- maps

pub at_same {ℓ} : {A : Type ℓ} (f : ℕ → A) (i : ℕ) (a : A) → at f i a i ≡ a
unfolding at
at_same f i a = rw (eq-eqb i i refl, at)

pub at_other {ℓ} : {A : Type ℓ} (f : ℕ → A) (i : ℕ) (a : A) (j : ℕ) → j ≢ i → at f i a j ≡ f j
unfolding at
at_other f i a j h = rw (ne_eqb j i h, at)

-- what holds of the new entry, and of the old ones elsewhere, holds of the changed map
pub at-cases {ℓ} : {A : Type ℓ} (P : A → Type 0) (f : ℕ → A) (i : ℕ) (a : A) (j : ℕ) → (j ≡ i → P a) → (j ≢ i → P (f j)) → P (at f i a j)
at-cases P f i a j h g = eq_test j i (λ e. rw (e, at_same f i a) (h e)) (λ n. rw (at_other f i a j n) (g n))

-- a map changed to what it has already
pub at-itself {ℓ} : {A : Type ℓ} (f : ℕ → A) (i : ℕ) (a : A) → f i ≡ a → at f i a ≡ f
at-itself f i a e = fun_ext λ j. eq_test j i (λ q. rw (q, at_same f i a) (sym e)) (λ n. at_other f i a j n)
