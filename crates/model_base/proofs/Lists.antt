-- All and some of a list, and the test of each element.
use Rattle.std.proofs.Common.{◌≡◌, refl, sym, ap, subst, Bool, true, ◌&&◌, ◌||◌, ◌⊎◌, inl, inr, List, [], ◌∷◌, ◌++◌, append-nil, append_assoc, ℕ, zero, suc, ◌+◌, ◌*◌, ◌≤◌, ◌<◌, add-zero, add-suc, suc-add, arith, length, length-append}
use mathlib.Core.Bool.{and-true, and_assoc, or-false, or_assoc}
use mathlib.Core.List.{head-eq_of_cons-eq, tail-eq_of_cons-eq, cons-ne-nil, concat-ne-nil, append-ne-nil_of_right_ne-nil}
use Rattle.model_base.specs.Finite.{every, any, gather}
use Rattle.model_base.proofs.Tests.{both, to_both, eq_test}
pub use Rattle.model_base.specs.Lists.{All, Any}

pub All-append : {A : Type 0} (P : A → Type 0) (l r : List A) → All P l → All P r → All P (l ++ r)
All-append P [] r h k = k
All-append P (x ∷ xs) r h k = (h.0, All-append P xs r h.1 k)

pub All-right : {A : Type 0} (P : A → Type 0) (l r : List A) → All P (l ++ r) → All P r
All-right P [] r h = h
All-right P (x ∷ xs) r h = All-right P xs r h.1

pub All-both : {A : Type 0} (P Q : A → Type 0) (l : List A) → All P l → All Q l → All (λ x. P x × Q x) l
All-both P Q [] h k = tt
All-both P Q (x ∷ xs) h k = ((h.0, k.0), All-both P Q xs h.1 k.1)

pub All-map : {A : Type 0} (P Q : A → Type 0) → ((x : A) → P x → Q x) → (l : List A) → All P l → All Q l
All-map P Q f [] h = tt
All-map P Q f (x ∷ xs) h = (f x h.0, All-map P Q f xs h.1)

pub any_left : {A : Type 0} (P : A → Type 0) (l r : List A) → Any P l → Any P (l ++ r)
any_left P [] r h = absurd h
any_left P (x ∷ xs) r (inl h) = inl h
any_left P (x ∷ xs) r (inr h) = inr (any_left P xs r h)

pub any-right : {A : Type 0} (P : A → Type 0) (l r : List A) → Any P r → Any P (l ++ r)
any-right P [] r h = h
any-right P (x ∷ xs) r h = inr (any-right P xs r h)

pub any-tail : {A : Type 0} (P : A → Type 0) (x : A) (xs : List A) → (P x → ⊥) → Any P (x ∷ xs) → Any P xs
any-tail P x xs f (inl h) = absurd (f h)
any-tail P x xs f (inr h) = h

pub any-all : {A : Type 0} (P Q : A → Type 0) → ((x : A) → P x → Q x → ⊥) → (l : List A) → Any P l → All Q l → ⊥
any-all P Q f [] a h = a
any-all P Q f (x ∷ xs) (inl a) h = f x a h.0
any-all P Q f (x ∷ xs) (inr a) h = any-all P Q f xs a h.1

-- where none has P, all have Q
pub all_but : {A : Type 0} (P Q : A → Type 0) (l : List A) → All (λ x. P x ⊎ Q x) l → (Any P l → ⊥) → All Q l
all_but P Q [] h f = tt
all_but P Q (x ∷ xs) (inl h, hs) f = absurd (f (inl h))
all_but P Q (x ∷ xs) (inr h, hs) f = (h, all_but P Q xs hs (λ a. f (inr a)))

-- ---- each element passes

pub every-all : {A : Type 0} (p : A → Bool) (l : List A) → every p l ≡ true → All (λ x. p x ≡ true) l
unfolding every
every-all p [] e = tt
every-all p (x ∷ xs) e = let h = both (p x) (every p xs) e in (h.0, every-all p xs h.1)

pub to-every : {A : Type 0} (p : A → Bool) (l : List A) → All (λ x. p x ≡ true) l → every p l ≡ true
unfolding every
to-every p [] h = refl
to-every p (x ∷ xs) h = to_both (p x) (every p xs) h.0 (to-every p xs h.1)

pub every-snoc : {A : Type 0} (p : A → Bool) (l : List A) (x : A) → every p (l ++ (x ∷ [])) ≡ every p l && p x
unfolding every
every-snoc p [] x = and-true (p x)
every-snoc p (y ∷ l) x = rw (every-snoc p l x) (sym (and_assoc (p y) (every p l) (p x)))

-- ---- some element passes

pub any_snoc : {A : Type 0} (p : A → Bool) (l : List A) (x : A) → any p (l ++ (x ∷ [])) ≡ any p l || p x
unfolding any
any_snoc p [] x = or-false (p x)
any_snoc p (y ∷ l) x = rw (any_snoc p l x) (sym (or_assoc (p y) (any p l) (p x)))

pub gather-all : {A : Type 0} (P : A → Type 0) (f : ℕ → List A) (m k : ℕ) → ((j : ℕ) → k ≤ j → j < k + m → All P (f j))
    → All P (gather m k f)
unfolding gather
gather-all P f zero k h = tt
gather-all P f (suc m) k h =
    All-append P (f k) (gather m (suc k) f) (h k (omega arith) (omega arith))
    (gather-all P f m (suc k) (λ j l u. h j (omega arith) (omega arith)))

-- one number further

pub gather-last : {A : Type 0} (m k : ℕ) (f : ℕ → List A) → gather (suc m) k f ≡ gather m k f ++ f (k + m)
unfolding gather
gather-last zero k f = rw add-zero (append-nil (f k))
gather-last (suc m) k f =
    rw (add-suc k m, ← suc-add k m, append_assoc (f k) (gather m (suc k) f) (f (suc k + m))) (ap (λ (l : List _). f k ++ l) (gather-last m (suc k) f))

-- ---- how much is gathered

pub gather-length : {A : Type 0} (c m k : ℕ) (f : ℕ → List A) → ((j : ℕ) → k ≤ j → j < k + m → length (f j) ≤ c)
    → length (gather m k f) ≤ m * c
unfolding gather
gather-length c zero k f h = omega arith
gather-length c (suc m) k f h =
    rw length-append
    (omega (arith, h k (omega arith) (omega arith), gather-length c m (suc k) f (λ j l u. h j (omega arith) (omega arith))))

-- where one of the numbers has nothing
pub gather-but-one : {A : Type 0} (m k i : ℕ) (f : ℕ → List A) → ((j : ℕ) → length (f j) ≤ 1) → k ≤ i → i < k + m → f i ≡ []
    → length (gather m k f) < m
unfolding gather
gather-but-one zero k i f h l u e = absurd (omega arith)
gather-but-one (suc m) k i f h l u e =
    rw length-append
    (eq_test k i
    (λ q. let z : f k ≡ [] = rw q e in rw z (omega (arith, gather-length 1 m (suc k) f (λ j a b. h j))))
    (λ n. omega (arith, h k, gather-but-one m (suc k) i f h (omega (arith, n)) (omega arith) e)))

-- ---- the last element

pub snoc-eq : {A : Type 0} (xs ys : List A) (x y : A) → xs ++ (x ∷ []) ≡ ys ++ (y ∷ []) → (xs ≡ ys) × (x ≡ y)
snoc-eq [] [] x y e = (refl, head-eq_of_cons-eq e)
snoc-eq [] (b ∷ ys) x y e = absurd (concat-ne-nil y ys (sym (tail-eq_of_cons-eq e)))
snoc-eq (a ∷ xs) [] x y e = absurd (concat-ne-nil x xs (tail-eq_of_cons-eq e))
snoc-eq (a ∷ xs) (b ∷ ys) x y e =
    let q = snoc-eq xs ys x y (tail-eq_of_cons-eq e) in (rw (head-eq_of_cons-eq e, q.0), q.1)

-- what holds of all but the last holds of one that has another behind it
pub All-before : {A : Type 0} (P : A → Type 0) (xs ys : List A) (x y z : A) (zs : List A) → All P xs → xs ++ (x ∷ []) ≡ ys ++ (y ∷ z ∷ zs) → P y
All-before P [] [] x y z zs h e = absurd (cons-ne-nil z zs (sym (tail-eq_of_cons-eq e)))
All-before P [] (b ∷ ys) x y z zs h e = absurd (append-ne-nil_of_right_ne-nil ys (cons-ne-nil y (z ∷ zs)) (sym (tail-eq_of_cons-eq e)))
All-before P (a ∷ xs) [] x y z zs h e = subst P (head-eq_of_cons-eq e) h.0
All-before P (a ∷ xs) (b ∷ ys) x y z zs h e = All-before P xs ys x y z zs h.1 (tail-eq_of_cons-eq e)
