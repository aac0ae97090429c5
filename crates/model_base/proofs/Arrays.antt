-- Arrays as lists: read below their end, changed, copied element by element, and filled with one value.
use Rattle.std.proofs.Common.{ℕ, zero, suc, ◌+◌, ◌≤◌, ◌<◌, ◌≡◌, refl, ap, List, [], ◌∷◌, map, not-suc-le-zero, le_of_suc-le-suc, add-one, length, get_or, set, take, replicate, take-suc, take-suc-set}

-- one element more of a list that is copied
pub copied : {A : Type 0} (l m : List A) (k : ℕ) (a d : A) → k < length l → k < length m → take k l ≡ take k m → a ≡ get_or m k d
    → take (k + 1) (set l k a) ≡ take (k + 1) m
copied l m k a d h g e f =
    rw (add-one k, take-suc-set l k a h, take-suc m k d g, e, f)

-- what stands in a list below its end does not hang on what it has past it
pub get_or-below : {A : Type 0} (l : List A) (k : ℕ) (d e : A) → k < length l → get_or l k d ≡ get_or l k e
get_or-below [] k d e h = absurd (not-suc-le-zero h)
get_or-below (x ∷ xs) zero d e h = refl
get_or-below (x ∷ xs) (suc k) d e h = get_or-below xs k d e (le_of_suc-le-suc h)

-- past the end there is what one asks for
pub get_d_past : {A : Type 0} (l : List A) (k : ℕ) (d : A) → length l ≤ k → get_or l k d ≡ d
get_d_past [] k d h = refl
get_d_past (x ∷ xs) zero d h = absurd (not-suc-le-zero h)
get_d_past (x ∷ xs) (suc k) d h = get_d_past xs k d (le_of_suc-le-suc h)

-- one value all over, past the end too
pub get_or-same : {A : Type 0} (n : ℕ) (a : A) (k : ℕ) → get_or (replicate n a) k a ≡ a
get_or-same zero a k = refl
get_or-same (suc n) a zero = refl
get_or-same (suc n) a (suc k) = get_or-same n a k

pub map-replicate : {A B : Type 0} (f : A → B) (n : ℕ) (a : A) → map f (replicate n a) ≡ replicate n (f a)
map-replicate f zero a = refl
map-replicate f (suc n) a = ap (λ (l : List _). f a ∷ l) (map-replicate f n a)

pub map-set : {A B : Type 0} (f : A → B) (l : List A) (i : ℕ) (a : A) → map f (set l i a) ≡ set (map f l) i (f a)
map-set f [] i a = refl
map-set f (x ∷ xs) zero a = refl
map-set f (x ∷ xs) (suc i) a = ap (λ ys. f x ∷ ys) (map-set f xs i a)
