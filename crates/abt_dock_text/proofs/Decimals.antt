-- A number in decimal, with the end of its line behind it, is read in one way alone.
-- No digit ends a line, and the last digit and those before it say the number: by induction on how many digits are allowed.
use Rattle.std.proofs.Common.{◌≡◌, refl, sym, ap, ◌∙◌, Bool, true, false, not, List, [], ◌∷◌, ◌++◌, append_assoc, ℕ, zero, suc, ◌+◌, ◌/◌, ◌%◌, ◌≤◌, ◌<◌, arith, eqb, ltb, length, length-append, ne_eqb, ltb-true, ltb-false}
use mathlib.Core.Bool.{false≢true}
use mathlib.Core.List.{head-eq_of_cons-eq, tail-eq_of_cons-eq}
use Rattle.std.proofs.lemmas.List.{append_cancel_left}
use Rattle.model_base.specs.Finite.{every}
use Rattle.model_base.proofs.Tests.{test, both, to_both}
use Rattle.model_base.proofs.Lists.{every-snoc, snoc-eq}
use Rattle.model_base.specs.Decimal.{last_decimals, decimal, newline, line_of}

-- ---- lines

-- no newline
unfoldable pub plain : ℕ → Bool
plain b = not (eqb b 10)

newline-plain : {A : Type 0} (b : ℕ) → 10 ≡ b → plain b ≡ true → A
unfolding plain
newline-plain b e h = absurd (false≢true (rw (← e) at h))

-- the first newline ends the line
pub first-line : (xs ys more others : List ℕ) → every plain xs ≡ true → every plain ys ≡ true → xs ++ (10 ∷ more) ≡ ys ++ (10 ∷ others)
    → (xs ≡ ys) × (more ≡ others)
unfolding every
first-line [] [] more others p q e = (refl, tail-eq_of_cons-eq e)
first-line [] (y ∷ ys) more others p q e = newline-plain y (head-eq_of_cons-eq e) (both (plain y) _ q).0
first-line (x ∷ xs) [] more others p q e = newline-plain x (sym (head-eq_of_cons-eq e)) (both (plain x) _ p).0
first-line (x ∷ xs) (y ∷ ys) more others p q e =
    let s = first-line xs ys more others (both (plain x) _ p).1 (both (plain y) _ q).1 (tail-eq_of_cons-eq e) in
    (rw (head-eq_of_cons-eq e, s.0), s.1)

-- ---- digits

plain-digit : (k : ℕ) → plain (48 + k) ≡ true
unfolding plain
plain-digit k = rw (ne_eqb (48 + k) 10 (λ e. omega arith))

plain-digits : (most n : ℕ) → every plain (last_decimals most n) ≡ true
unfolding last_decimals every
plain-digits zero n = refl
plain-digits (suc most) n =
    test (ltb n 10)
    (λ t. rw (t, last_decimals) (to_both _ _ (plain-digit n) refl))
    (λ t. rw (t, last_decimals)
    (every-snoc plain (last_decimals most (n / 10)) (48 + n % 10) ∙ to_both _ _ (plain-digits most (n / 10)) (plain-digit (n % 10))))

some-digits : (most n : ℕ) → n < most → 1 ≤ length (last_decimals most n)
unfolding last_decimals
some-digits zero n h = absurd (omega arith)
some-digits (suc most) n h =
    test (ltb n 10)
    (λ t. rw (t, last_decimals) (omega arith))
    (λ t. rw (t, last_decimals, length-append) (omega arith))

-- what stands before the last digit
front : ℕ → ℕ → List ℕ
front most n = elim (ltb n 10) [ true ↦ [] | false ↦ last_decimals most (n / 10) ]

last-digit : (most n : ℕ) → last_decimals (suc most) n ≡ front most n ++ ((48 + n % 10) ∷ [])
unfolding last_decimals front
last-digit most n =
    test (ltb n 10)
    (λ t. let low : n % 10 ≡ n = omega (arith, ltb-true n 10 t) in rw (t, last_decimals, front, low))
    (λ t. rw (t, last_decimals, front))

no-digits : {A : Type 0} (most n : ℕ) → n < most → [] ≡ last_decimals most n → A
no-digits most n h e = absurd (omega (arith, some-digits most n h, ap length e))

digits-injective : (a b m n : ℕ) → m < a → n < b → last_decimals a m ≡ last_decimals b n → m ≡ n
unfolding front
digits-injective zero b m n l h e = absurd (omega arith)
digits-injective (suc a) zero m n l h e = absurd (omega arith)
digits-injective (suc a) (suc b) m n l h e =
    let s = snoc-eq (front a m) (front b n) (48 + m % 10) (48 + n % 10) (sym (last-digit a m) ∙ e ∙ last-digit b n) in
    test (ltb m 10)
    (λ t. test (ltb n 10)
    (λ u. omega (arith, s.1, ltb-true m 10 t, ltb-true n 10 u))
    (λ u. let f = ltb-false n 10 u in no-digits b (n / 10) (omega arith) (rw (t, u, front) at s.0)))
    (λ t. test (ltb n 10)
    (λ u. let f = ltb-false m 10 t in no-digits a (m / 10) (omega arith) (sym (rw (t, u, front) at s.0)))
    (λ u. let f = ltb-false m 10 t in
    let g = ltb-false n 10 u in
    let r = digits-injective a b (m / 10) (n / 10) (omega arith) (omega arith) (rw (t, u, front) at s.0) in
    omega (arith, s.1, r)))

-- ---- a line that ends in a number

number-ends : (m n : ℕ) (more others : List ℕ) → decimal m ++ (10 ∷ more) ≡ decimal n ++ (10 ∷ others) → (m ≡ n) × (more ≡ others)
unfolding decimal
number-ends m n more others e =
    let s = first-line (decimal m) (decimal n) more others (plain-digits (suc m) m) (plain-digits (suc n) n) e in
    (digits-injective (suc m) (suc n) m n (omega arith) (omega arith) s.0, s.1)

line-then : (before : List ℕ) (n : ℕ) (more : List ℕ) → line_of before n ++ more ≡ before ++ (decimal n ++ (10 ∷ more))
unfolding line_of newline
line-then before n more =
    append_assoc before (decimal n ++ (10 ∷ [])) more ∙ ap (λ (l : List ℕ). before ++ l) (append_assoc (decimal n) (10 ∷ []) more)

pub line-injective : (before : List ℕ) (m n : ℕ) (more others : List ℕ) → line_of before m ++ more ≡ line_of before n ++ others
    → (m ≡ n) × (more ≡ others)
line-injective before m n more others e =
    number-ends m n more others
    (append_cancel_left before _ _ (sym (line-then before m more) ∙ e ∙ line-then before n others))
