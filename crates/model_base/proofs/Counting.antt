-- How many elements of a list pass a test, how many of 1 to m miss one; and lists within lists: one that is as long as the list that it lies in, or has as many of each
-- element, is that list.
use Rattle.std.proofs.Common.{◌≡◌, refl, sym, ap, ◌≢◌, Bool, true, false, cond, List, [], ◌∷◌, ◌++◌, ℕ, zero, suc, ◌+◌, ◌≤◌, ◌<◌, arith, length, replicate, eqb, eqb-true}
use borrow.Author.Tests.{eqb-false}
use Rattle.model_base.specs.Finite.{gather}
use Rattle.model_base.proofs.Tests.{test}

-- ---- counting

unfoldable pub count_if : {A : Type 0} → (A → Bool) → List A → ℕ
count_if p [] = 0
count_if p (x ∷ xs) = cond (p x) 1 0 + count_if p xs

pub count-append : {A : Type 0} (p : A → Bool) (xs ys : List A) → count_if p (xs ++ ys) ≡ count_if p xs + count_if p ys
unfolding count_if
count-append p [] ys = omega arith
count-append p (x ∷ xs) ys = omega (arith, count-append p xs ys)

pub count-hits : {A : Type 0} (p : A → Bool) (a : A) (k : ℕ) → p a ≡ true → count_if p (replicate k a) ≡ k
unfolding count_if
count-hits p a zero h = refl
count-hits p a (suc k) h = rw h (omega (arith, count-hits p a k h))

pub count-misses : {A : Type 0} (p : A → Bool) (a : A) (k : ℕ) → p a ≡ false → count_if p (replicate k a) ≡ 0
unfolding count_if
count-misses p a zero h = refl
count-misses p a (suc k) h = rw h (omega (arith, count-misses p a k h))

-- where a part is gathered, all of it is
pub gather-least : {A : Type 0} (p : A → Bool) (m k i : ℕ) (f : ℕ → List A) → k ≤ i → i < k + m
    → count_if p (f i) ≤ count_if p (gather m k f)
unfolding gather
gather-least p zero k i f l h = absurd (omega arith)
gather-least p (suc m) k i f l h =
    let a = count-append p (f k) (gather m (suc k) f) in
    test (eqb i k)
    (λ e. rw (eqb-true i k e) (omega arith))
    (λ e. omega (arith, gather-least p m (suc k) i f (omega (arith, eqb-false i k e)) (omega arith)))

-- where only one part counts, no more than that is gathered
pub gather-most : {A : Type 0} (p : A → Bool) (m k i : ℕ) (f : ℕ → List A) → ((x : ℕ) → x ≢ i → count_if p (f x) ≡ 0)
    → count_if p (gather m k f) ≤ count_if p (f i)
unfolding gather count_if
gather-most p zero k i f n = omega arith
gather-most p (suc m) k i f n =
    let a = count-append p (f k) (gather m (suc k) f) in
    test (eqb i k)
    (λ e. let q = eqb-true i k e in rw q (omega (arith, beyond m (suc k) (omega arith))))
    (λ e. omega (arith, n k (λ q. eqb-false i k e (sym q)), gather-most p m (suc k) i f n))
  where
    beyond : (m k : ℕ) → i < k → count_if p (gather m k f) ≡ 0
    beyond zero k l = refl
    beyond (suc m) k l =
        omega (arith, count-append p (f k) (gather m (suc k) f), n k (λ q. omega arith), beyond m (suc k) (omega arith))

-- ---- lists within lists

-- the first list is the second with some elements left out
pub data Sublist {A : Type 0} : List A → List A → Type 0 where
  empty : Sublist [] []
  kept : {x : A} {xs ys : List A} → Sublist xs ys → Sublist (x ∷ xs) (x ∷ ys)
  omitted : {y : A} {xs ys : List A} → Sublist xs ys → Sublist xs (y ∷ ys)

pub sublist-append : {A : Type 0} {xs ys us vs : List A} → Sublist xs ys → Sublist us vs → Sublist (xs ++ us) (ys ++ vs)
sublist-append empty T = T
sublist-append (kept S) T = kept (sublist-append S T)
sublist-append (omitted S) T = omitted (sublist-append S T)

sublist-length : {A : Type 0} {xs ys : List A} → Sublist xs ys → length xs ≤ length ys
sublist-length empty = omega arith
sublist-length (kept S) = omega (arith, sublist-length S)
sublist-length (omitted S) = omega (arith, sublist-length S)

sublist-count : {A : Type 0} (p : A → Bool) {xs ys : List A} → Sublist xs ys → count_if p xs ≤ count_if p ys
unfolding count_if
sublist-count p empty = omega arith
sublist-count p (kept S) = omega (arith, sublist-count p S)
sublist-count p (omitted S) = omega (arith, sublist-count p S)

-- nothing is left out where the lengths agree
pub sublist-whole : {A : Type 0} {xs ys : List A} → Sublist xs ys → length xs ≡ length ys → xs ≡ ys
sublist-whole empty e = refl
sublist-whole (kept {x = x} S) e = ap (λ l. x ∷ l) (sublist-whole S (omega arith))
sublist-whole (omitted S) e = absurd (omega (arith, sublist-length S))

-- nor where there are as many of each element
pub sublist-full : {A : Type 0} (same : A → A → Bool) → ((x : A) → same x x ≡ true) → {xs ys : List A} → Sublist xs ys
    → ((x : A) → count_if (same x) ys ≤ count_if (same x) xs) → length xs ≡ length ys
unfolding count_if
sublist-full same r empty h = refl
sublist-full same r (kept {x = x} S) h = ap suc (sublist-full same r S (λ z. omega (arith, h z)))
sublist-full same r (omitted {y = y} S) h =
    absurd (omega (arith, rw (r y) at (h y), sublist-count (same y) S))

-- ---- how many of 1 to m miss a test

unfoldable pub misses : ℕ → (ℕ → Bool) → ℕ
misses zero p = 0
misses (suc m) p = cond (p (suc m)) 0 1 + misses m p

pub misses-most : (m : ℕ) (p : ℕ → Bool) → misses m p ≤ m
unfolding misses
misses-most zero p = omega arith
misses-most (suc m) p =
    let i = misses-most m p in
    test (p (suc m)) (λ e. rw e (omega arith)) (λ e. rw e (omega arith))

-- where more pass, fewer miss
pub misses-le : (m : ℕ) (p q : ℕ → Bool) → ((k : ℕ) → p k ≡ true → q k ≡ true) → misses m q ≤ misses m p
unfolding misses
misses-le zero p q h = omega arith
misses-le (suc m) p q h =
    let i = misses-le m p q h in
    test (p (suc m))
    (λ e. rw (e, h (suc m) e) (omega arith))
    (λ e. test (q (suc m)) (λ g. rw (e, g) (omega arith)) (λ g. rw (e, g) (omega arith)))

pub misses-lt : (m : ℕ) (p q : ℕ → Bool) → ((k : ℕ) → p k ≡ true → q k ≡ true)
    → (j : ℕ) → 1 ≤ j → j ≤ m → p j ≡ false → q j ≡ true → misses m q < misses m p
unfolding misses
misses-lt zero p q h j l u a b = absurd (omega arith)
misses-lt (suc m) p q h j l u a b =
    test (eqb j (suc m))
    (λ e. let i = misses-le m p q h in let z = eqb-true j (suc m) e in rw (rw z at a, rw z at b) (omega arith))
    (λ e. let i = misses-lt m p q h j l (omega (arith, eqb-false j (suc m) e)) a b in
    test (p (suc m))
    (λ f. rw (f, h (suc m) f) (omega arith))
    (λ f. test (q (suc m)) (λ g. rw (f, g) (omega arith)) (λ g. rw (f, g) (omega arith))))
