-- Cases on a test or an option, and what tests say.
use Rattle.std.proofs.Common.{None, Option, Some, ◌≡◌, refl, sym, ◌∙◌, ◌≢◌, ◌⊎◌, inl, inr, Bool, true, false, not, ◌&&◌, ◌||◌, ℕ, ◌≤◌, ◌<◌, arith, eqb, ltb, leb, ltb-true, leb-true, leb-false, lt-ltb, le-leb, eqb-true}
use mathlib.Core.Bool.{and-eq-true_iff, false≢true}
use borrow.Author.Tests.{eqb-false}
use Rattle.model_base.specs.Finite.{within, is_some}

pub test {ℓ} : {C : Type ℓ} (b : Bool) → (b ≡ true → C) → (b ≡ false → C) → C
test true f g = f refl
test false f g = g refl

pub eq_test {ℓ} : {C : Type ℓ} (i j : ℕ) → (i ≡ j → C) → (i ≢ j → C) → C
eq_test i j f g = test (eqb i j) (λ e. f (eqb-true i j e)) (λ e. g (eqb-false i j e))

pub opt {κ} : {A : Type 0} {C : Type κ} (o : Option A) → (o ≡ None → C) → ((x : A) → o ≡ Some x → C) → C
opt None f g = f refl
opt (Some x) f g = g x refl

pub no-some : {A X : Type 0} {r : A} → None ≡ Some r → X
no-some e = let z : ◌≡◌ {A = ℕ} 0 1 = cc in absurd (omega arith)

pub is_some-false : {A : Type 0} (o : Option A) → is_some o ≡ false → o ≡ None
unfolding is_some
is_some-false None e = refl
is_some-false (Some a) e = cc

pub is_some-true : {A : Type 0} (o : Option A) → is_some o ≡ true → (a : A) × (o ≡ Some a)
unfolding is_some
is_some-true None e = absurd (false≢true e)
is_some-true (Some a) e = (a, refl)

pub not-not : (b : Bool) → not (not b) ≡ b
not-not true = refl
not-not false = refl

pub not-true : (b : Bool) → not b ≡ true → b ≡ false
not-true true e = cc
not-true false e = refl

pub or_left : (a b : Bool) → a ≡ true → a || b ≡ true
or_left a b e = rw e

pub or_cases : (a b : Bool) → a || b ≡ true → (a ≡ true) ⊎ (b ≡ true)
or_cases true b e = inl refl
or_cases false b e = inr e

pub or-false-both : (a b : Bool) → a || b ≡ false → (a ≡ false) × (b ≡ false)
or-false-both true b e = absurd (false≢true (sym e))
or-false-both false b e = (refl, e)

pub or_right : (a b : Bool) → b ≡ true → a || b ≡ true
or_right true b e = refl
or_right false b e = e

pub both : (a b : Bool) → a && b ≡ true → (a ≡ true) × (b ≡ true)
both a b e = (and-eq-true_iff a b).0 e

pub to_both : (a b : Bool) → a ≡ true → b ≡ true → a && b ≡ true
to_both a b l r = (and-eq-true_iff a b).1 (l, r)

pub implied : (a b : Bool) → not a || b ≡ true → a ≡ true → b ≡ true
implied true b e h = e
implied false b e h = absurd (false≢true h)

pub to-implied : (a b : Bool) → (a ≡ true → b ≡ true) → not a || b ≡ true
to-implied true b f = f refl
to-implied false b f = refl

-- one of 1 to m, as a test and as bounds
pub within-true : (m k : ℕ) → within m k ≡ true → (1 ≤ k) × (k ≤ m)
unfolding within
within-true m k e = let h = (and-eq-true_iff (ltb 0 k) (leb k m)).0 e in (ltb-true 0 k h.0, leb-true k m h.1)

pub to-within : (m k : ℕ) → 1 ≤ k → k ≤ m → within m k ≡ true
unfolding within
to-within m k l h = rw (lt-ltb 0 k l, le-leb k m h)

pub not_within : (m k : ℕ) → (1 ≤ k → k ≤ m → ⊥) → within m k ≡ false
not_within m k h = test (within m k) (λ e. let b = within-true m k e in absurd (h b.0 b.1)) (λ e. e)

pub above_within : (m k : ℕ) → within m k ≡ false → 1 ≤ k → m < k
above_within m k e l = test (leb k m) (λ u. absurd (false≢true (sym e ∙ to-within m k l (leb-true k m u)))) (λ u. leb-false k m u)
