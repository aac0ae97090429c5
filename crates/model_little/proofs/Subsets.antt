-- Sets of rows as binary numbers: the rows that a number chooses have that number, and the number of some rows chooses those.
-- Row by row, the first row's bit the lowest; no row may stand twice.
use Rattle.std.proofs.Common.{ℕ, ◌+◌, ◌*◌, ◌/◌, ◌%◌, ◌^◌, ◌≤◌, ◌<◌, ◌≡◌, refl, sym, ◌∙◌, ◌≢◌, inl, inr, Bool, true, false, cond, ◌&&◌, ◌||◌, List, [], ◌∷◌, pow-suc, arith, length, eqb, eqb-true, eq-eqb}
use mathlib.Core.Bool.{and-false, or-false}
use borrow.Author.Tests.{eqb-false}
use Rattle.model_base.specs.Finite.{any, every}
use Rattle.model_base.proofs.Tests.{test, both, to_both, or_left, or_right}
use Rattle.model_base.proofs.Lists.{All, Any, All-map}
use Rattle.model_sheet.specs.Row.{Row}
use Rattle.model_little.specs.Little.{chosen, number_of}
use Rattle.model_little.proofs.Unlike.{Unlike}

-- ---- a row among others

unfoldable pub same_row : Row → Row → Bool
same_row a b = eqb a.lower b.lower && eqb a.higher b.higher && eqb a.low b.low && eqb a.high b.high

pub same_row_lem : (a b : Row) → same_row a b ≡ true → a ≡ b
unfolding same_row
same_row_lem a b e =
    let h = both (eqb a.lower b.lower && eqb a.higher b.higher && eqb a.low b.low) _ e in
    let l = both (eqb a.lower b.lower && eqb a.higher b.higher) _ h.0 in
    let u = both (eqb a.lower b.lower) _ l.0 in
    let lower = eqb-true _ _ u.0 in
    let higher = eqb-true _ _ u.1 in
    let low = eqb-true _ _ l.1 in
    let high = eqb-true _ _ h.1 in
    λ i. record { lower = lower i; higher = higher i; low = low i; high = high i }

pub row-itself : (a : Row) → same_row a a ≡ true
unfolding same_row
row-itself a =
    to_both _ _ (to_both _ _ (to_both _ _ (eq-eqb a.lower _ refl) (eq-eqb a.higher _ refl)) (eq-eqb a.low _ refl)) (eq-eqb a.high _ refl)

other_row : (a b : Row) → a ≢ b → same_row a b ≡ false
other_row a b n = test (same_row a b) (λ e. absurd (n (same_row_lem a b e))) (λ e. e)

-- row a is one of these
unfoldable pub among : Row → List Row → Bool
among a = any (same_row a)

pub to-among : (a : Row) (l : List Row) → Any (λ b. a ≡ b) l → among a l ≡ true
unfolding among any
to-among a [] h = absurd h
to-among a (b ∷ l) (inl e) = or_left (same_row a b) _ (rw (← e) (row-itself a))
to-among a (b ∷ l) (inr h) = or_right (same_row a b) _ (to-among a l h)

-- ---- what a number chooses

odd-one : (x : ℕ) → (1 + 2 * x) % 2 ≡ 1
odd-one x = omega arith

half-odd : (x : ℕ) → (1 + 2 * x) / 2 ≡ x
half-odd x = omega arith

even-none : (x : ℕ) → (0 + 2 * x) % 2 ≡ 0
even-none x = omega arith

half-even : (x : ℕ) → (0 + 2 * x) / 2 ≡ x
half-even x = omega arith

pub chosen-few : (x : ℕ) (l : List Row) → length (chosen x l) ≤ length l
unfolding chosen
chosen-few x [] = omega arith
chosen-few x (a ∷ l) =
    test (eqb (x % 2) 1)
    (λ e. rw e (omega (arith, chosen-few (x / 2) l)))
    (λ e. rw e (omega (arith, chosen-few (x / 2) l)))

pub chosen-every : (t : Row → Bool) (x : ℕ) (l : List Row) → every t l ≡ true → every t (chosen x l) ≡ true
unfolding every chosen
chosen-every t x [] h = refl
chosen-every t x (a ∷ l) h =
    let g = both (t a) _ h in
    test (eqb (x % 2) 1)
    (λ e. rw e (to_both _ _ g.0 (chosen-every t (x / 2) l g.1)))
    (λ e. rw e (chosen-every t (x / 2) l g.1))

-- one row more to choose from
among-more : (r a : Row) (x : ℕ) (l : List Row) → among r (chosen x (a ∷ l)) ≡ (eqb (x % 2) 1 && same_row r a) || among r (chosen (x / 2) l)
unfolding any among chosen
among-more r a x l = test (eqb (x % 2) 1) (λ e. rw e) (λ e. rw e)

-- a row that is none of them is not chosen
none-chosen : (r : Row) (x : ℕ) (l : List Row) → All (λ a. r ≢ a) l → among r (chosen x l) ≡ false
unfolding any among chosen
none-chosen r x [] h = refl
none-chosen r x (a ∷ l) h =
    among-more r a x l ∙ rw (other_row r a h.0, and-false (eqb (x % 2) 1)) (none-chosen r (x / 2) l h.1)

-- ---- the number of what it chooses

-- one row more doubles the numbers
doubled : (a : Row) (l : List Row) → 2 ^ length (a ∷ l) ≡ 2 ^ length l * 2
doubled a l = pow-suc 2 (length l)

number_same : (g h : Row → Bool) (l : List Row) → All (λ a. g a ≡ h a) l → number_of g l ≡ number_of h l
unfolding number_of
number_same g h [] e = refl
number_same g h (a ∷ l) e = rw (e.0, number_same g h l e.1)

pub number-as : (g h : Row → Bool) (l : List Row) → ((a : Row) → g a ≡ h a) → number_of g l ≡ number_of h l
unfolding number_of
number-as g h [] e = refl
number-as g h (a ∷ l) e = rw (e a, number-as g h l e)

whole : (x : ℕ) → cond (eqb (x % 2) 1) 1 0 + 2 * (x / 2) ≡ x
whole x =
    test (eqb (x % 2) 1)
    (λ e. rw e (let q = eqb-true (x % 2) 1 e in omega arith))
    (λ e. rw e (omega (arith, eqb-false (x % 2) 1 e)))

pub number-chosen : (x : ℕ) (l : List Row) → Unlike l → x < 2 ^ length l → number_of (λ r. among r (chosen x l)) l ≡ x
unfolding number_of
number-chosen x [] u h = omega arith
number-chosen x (a ∷ l) u h =
    let first : among a (chosen x (a ∷ l)) ≡ eqb (x % 2) 1 =
    among-more a a x l ∙ rw (row-itself a, none-chosen a (x / 2) l u.0, or-false) (and-true-of (eqb (x % 2) 1)) in
    let others : All (λ r. among r (chosen x (a ∷ l)) ≡ among r (chosen (x / 2) l)) l =
    All-map (λ r. a ≢ r) _ (λ r n. among-more r a x l ∙ rw (other_row r a (λ e. n (sym e)), and-false (eqb (x % 2) 1))) l u.0 in
    rw (first, number_same _ (λ r. among r (chosen (x / 2) l)) l others, number-chosen (x / 2) l u.1 (omega (arith, doubled a l))) (whole x)
  where
    and-true-of : (b : Bool) → b && true ≡ b
    and-true-of true = refl
    and-true-of false = refl

-- ---- and what a number chooses that has the bits of the rows that h names

pub number-below : (h : Row → Bool) (l : List Row) → number_of h l < 2 ^ length l
unfolding number_of
number-below h [] = omega arith
number-below h (a ∷ l) =
    test (h a)
    (λ e. rw e (omega (arith, number-below h l, doubled a l)))
    (λ e. rw e (omega (arith, number-below h l, doubled a l)))

pub chosen-number : (h : Row → Bool) (r : Row) (l : List Row) → among r (chosen (number_of h l) l) ≡ h r && among r l
unfolding any among number_of chosen
chosen-number h r [] = sym (and-false (h r))
chosen-number h r (a ∷ l) =
    test (h a)
    (λ e. rw (e, odd-one (number_of h l), half-odd (number_of h l)) (rw (chosen-number h r l) (named (λ s. rw (same_row_lem r a s) e))))
    (λ e. rw (e, even-none (number_of h l), half-even (number_of h l)) (chosen-number h r l ∙ unnamed (λ s. rw (same_row_lem r a s) e)))
  where
    named : (same_row r a ≡ true → h r ≡ true) → same_row r a || (h r && among r l) ≡ h r && (same_row r a || among r l)
    named f = test (same_row r a) (λ s. rw (s, f s)) (λ s. rw s)

    unnamed : (same_row r a ≡ true → h r ≡ false) → h r && among r l ≡ h r && (same_row r a || among r l)
    unnamed f = test (same_row r a) (λ s. rw (s, f s)) (λ s. rw s)
