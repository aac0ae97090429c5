-- The pairs of the gaps up to k - 8 that lie from least to greatest, one gap more at a time.
-- On a diagonal all pairs have its gap; all diagonals are all pairs.
use Rattle.std.proofs.Common.{ℕ, ◌+◌, ◌≤◌, ◌<◌, ◌≡◌, sym, ◌∙◌, Bool, true, false, ◌&&◌, ◌||◌, ◌⊎◌, inl, inr, arith, bit_or, eqb, ltb, ℤ, pos, ◌-ℤ◌, eqb-true, ltb-true, lt-ltb, le-ltb}
use mathlib.Core.Bool.{and-true, and-false, and-or_distrib_right}
use borrow.Author.Tests.{eqb-false}
use Rattle.model_base.proofs.Tests.{test, or_left, or_right, or_cases}
use Rattle.model_base.proofs.Peeling.{same_test}
use Rattle.model_sheet.specs.Row.{gap}
use Rattle.sheet_records.specs.Parts.{Pairs}
use Rattle.sheet_records.proofs.Pairs.{none, either, renamed}
use Rattle.sheet_records.proofs.Signed.{on-diagonal}

-- ---- one diagonal, with a test of its gap

abbrev pub On : ℕ → (ℤ → Bool) → ℕ → Type 0
On k f x = Pairs x (λ v w. eqb (w + 7) (k + v) && f (gap v w))

pub kept : (f : ℤ → Bool) (k x : ℕ) → Pairs x (λ v w. eqb (w + 7) (k + v)) → f (pos k -ℤ pos 7) ≡ true → On k f x
kept f k x p t =
    renamed p (λ v w a b c d. sym (on-diagonal f k v w a ∙ rw t (and-true (eqb (w + 7) (k + v)))))

pub dropped : (f : ℤ → Bool) (k : ℕ) → f (pos k -ℤ pos 7) ≡ false → On k f 0
dropped f k t = renamed none (λ v w a b c d. sym (on-diagonal f k v w a ∙ rw t (and-false (eqb (w + 7) (k + v)))))

-- ---- the diagonals before k

abbrev pub Upto : ℕ → (ℤ → Bool) → ℕ → Type 0
Upto k f x = Pairs x (λ v w. ltb (w + 7) (k + v) && f (gap v w))

pub upto-none : (f : ℤ → Bool) → Upto 0 f 0
upto-none f = renamed none (λ v w a b c d. let h : 0 + v ≤ w + 7 = omega arith in rw (le-ltb (w + 7) (0 + v) h))

pub upto-more : (f : ℤ → Bool) (k x y : ℕ) → Upto k f x → On k f y → Upto (k + 1) f (bit_or x y)
upto-more f k x y p q = renamed (either p q) (λ v w a b c d. more v w (f (gap v w)))
  where
    one_more : (m n : ℕ) → ltb m n || eqb m n ≡ ltb m (n + 1)
    one_more m n =
        same_test _ _
        (λ t. lt-ltb m (n + 1) (below (or_cases _ _ t)))
        (λ t. test (eqb m n) (λ e. or_right (ltb m n) _ e) (λ e. or_left _ _ (lt-ltb m n (omega (arith, ltb-true m (n + 1) t, eqb-false m n e)))))
      where
        below : (ltb m n ≡ true) ⊎ (eqb m n ≡ true) → m < n + 1
        below (inl t) = omega (arith, ltb-true m n t)
        below (inr t) = omega (arith, eqb-true m n t)

    more : (v w : ℕ) (t : Bool) → (ltb (w + 7) (k + v) && t) || (eqb (w + 7) (k + v) && t) ≡ ltb (w + 7) (k + 1 + v) && t
    more v w t =
        let on : k + 1 + v ≡ k + v + 1 = omega arith in
        sym (and-or_distrib_right (ltb (w + 7) (k + v)) (eqb (w + 7) (k + v)) t) ∙ rw (one_more (w + 7) (k + v), on)
