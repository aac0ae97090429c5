-- A search told by where it ends, cut short where nothing more passes, and halved.
use Rattle.std.proofs.Common.{None, Some, ℕ, zero, suc, ◌+◌, ◌-◌, ◌≤◌, ◌<◌, ◌≡◌, refl, sym, ◌∙◌, Bool, true, false, ◌||◌, ⊎_elim, not-suc-le-zero, arith, ltb, ltb-true, ltb-false}
use mathlib.Core.Bool.{false≢true}
use Rattle.model_base.specs.Finite.{lowest, highest, is_some}
use Rattle.model_base.proofs.Tests.{test, eq_test, opt, is_some-true, or_left, or_right, or_cases}
use Rattle.model_base.proofs.Search.{lowest-some, lowest-range, lowest-none, lowest-grows, lowest-last}
use Rattle.model_base.proofs.Peeling.{same_test}

pub lowest-is : (m k : ℕ) (p : ℕ → Bool) (s : ℕ) → k ≤ s → s < k + m → p s ≡ true → ((j : ℕ) → k ≤ j → j < s → p j ≡ false)
    → lowest m k p ≡ Some s
unfolding lowest
lowest-is zero k p s l h t f = absurd (omega arith)
lowest-is (suc m) k p s l h t f =
    eq_test k s
    (λ e. let q : p k ≡ true = rw e t in rw (q, lowest, e))
    (λ n. rw (f k (omega arith) (omega (arith, n)), lowest)
    (lowest-is m (suc k) p s (omega (arith, n)) (omega arith) t (λ j a b. f j (omega arith) b)))

-- m numbers and n of them: those beyond the n do not pass
pub lowest-shorter : (m n k : ℕ) (p q : ℕ → Bool) → n ≤ m → ((j : ℕ) → k ≤ j → j < k + n → p j ≡ q j)
    → ((j : ℕ) → k + n ≤ j → j < k + m → p j ≡ false) → lowest m k p ≡ lowest n k q
unfolding lowest
lowest-shorter zero zero k p q h same over = refl
lowest-shorter zero (suc n) k p q h same over = absurd (not-suc-le-zero h)
lowest-shorter (suc m) zero k p q h same over =
    rw (over k (omega arith) (omega arith), lowest)
    (lowest-shorter m zero (suc k) p q (omega arith) (λ j a b. absurd (omega arith)) (λ j a b. over j (omega arith) (omega arith)))
lowest-shorter (suc m) (suc n) k p q h same over =
    let here = same k (omega arith) (omega arith) in
    let rest = lowest-shorter m n (suc k) p q (omega arith) (λ j a b. same j (omega arith) (omega arith)) (λ j a b. over j (omega arith) (omega arith)) in
    test (q k)
    (λ t. rw (here, t, lowest))
    (λ t. rw (here, t, lowest) rest)

pub lowest-empty : (m k : ℕ) (p : ℕ → Bool) → ((j : ℕ) → k ≤ j → p j ≡ false) → lowest m k p ≡ None
unfolding lowest
lowest-empty zero k p f = refl
lowest-empty (suc m) k p f = rw (f k (omega arith), lowest) (lowest-empty m (suc k) p (λ j l. f j (omega arith)))

pub highest-is : (m : ℕ) (p : ℕ → Bool) (s : ℕ) → 1 ≤ s → s ≤ m → p s ≡ true → ((j : ℕ) → s < j → j ≤ m → p j ≡ false)
    → highest m p ≡ Some s
unfolding highest
highest-is zero p s l h t f = absurd (omega arith)
highest-is (suc m) p s l h t f =
    eq_test s (suc m)
    (λ e. let q : p (suc m) ≡ true = rw (← e) t in rw (q, highest, e))
    (λ n. rw (f (suc m) (omega (arith, n)) (omega arith), highest)
    (highest-is m p s l (omega (arith, n)) t (λ j a b. f j a (omega arith))))

pub highest-empty : (m : ℕ) (p : ℕ → Bool) → ((j : ℕ) → 1 ≤ j → j ≤ m → p j ≡ false) → highest m p ≡ None
unfolding highest
highest-empty zero p f = refl
highest-empty (suc m) p f = rw (f (suc m) (omega arith) (omega arith), highest) (highest-empty m p (λ j a b. f j a (omega arith)))

-- ---- whether something passes

pub is_some-passes : (m k : ℕ) (p : ℕ → Bool) (j : ℕ) → k ≤ j → j < k + m → p j ≡ true → is_some (lowest m k p) ≡ true
unfolding is_some
is_some-passes m k p j l h t =
    opt (lowest m k p) (λ e. absurd (false≢true (sym (lowest-none m k p e j l h) ∙ t))) (λ s e. rw e)

pub is_some-last : (m k : ℕ) (p : ℕ → Bool) → is_some (lowest (suc m) k p) ≡ is_some (lowest m k p) || p (k + m)
unfolding is_some
is_some-last m k p =
    opt (lowest m k p)
    (λ e. rw (lowest-last m k p e, e) (test (p (k + m)) (λ t. rw t) (λ t. rw t)))
    (λ s e. rw (lowest-grows m (suc m) k p s (omega arith) e, e))

-- the second n numbers laid over the first
pub is_some-halves : (n k : ℕ) (p q : ℕ → Bool) → ((j : ℕ) → k ≤ j → j < k + n → q j ≡ p j || p (j + n))
    → is_some (lowest (n + n) k p) ≡ is_some (lowest n k q)
is_some-halves n k p q h =
    same_test (is_some (lowest (n + n) k p)) (is_some (lowest n k q)) folded spread
  where
    folded : is_some (lowest (n + n) k p) ≡ true → is_some (lowest n k q) ≡ true
    folded e =
        let (s, f) = is_some-true (lowest (n + n) k p) e in
        let r = lowest-range (n + n) k p s f in
        let t = lowest-some (n + n) k p s f in
        test (ltb s (k + n))
        (λ u. is_some-passes n k q s r.0 (ltb-true s (k + n) u) (h s r.0 (ltb-true s (k + n) u) ∙ or_left _ _ t))
        (λ u.
        let d = ltb-false s (k + n) u in
        let i : s - n + n ≡ s = omega arith in
        let t' : p (s - n + n) ≡ true = rw i t in
        is_some-passes n k q (s - n) (omega arith) (omega arith) (h (s - n) (omega arith) (omega arith) ∙ or_right (p (s - n)) _ t'))

    spread : is_some (lowest n k q) ≡ true → is_some (lowest (n + n) k p) ≡ true
    spread e =
        let (s, f) = is_some-true (lowest n k q) e in
        let r = lowest-range n k q s f in
        ⊎_elim
        (λ t. is_some-passes (n + n) k p s r.0 (omega arith) t)
        (λ t. is_some-passes (n + n) k p (s + n) (omega arith) (omega arith) t)
        (or_cases (p s) (p (s + n)) (sym (h s r.0 r.1) ∙ lowest-some n k q s f))
