-- Finite search, and maps on numbers. Nothing here knows of agents.
use Rattle.std.specs.Prelude.{ℕ, zero, suc, ◌+◌, Bool, true, false, ◌&&◌, ◌||◌, List, [], ◌∷◌, ◌++◌, eqb, ltb, leb, None, Option, Some}

-- f, with a at i
unfoldable pub at {ℓ} : {A : Type ℓ} → (ℕ → A) → ℕ → A → ℕ → A
at f i a j = elim (eqb j i) [ true ↦ a | false ↦ f j ]

-- what a holds at 0, 1, 2, .. is what the map has at 1, 2, 3, ..; at 0 it has z
unfoldable pub from_one {ℓ} : {A : Type ℓ} → A → (ℕ → A) → ℕ → A
from_one z f zero = z
from_one z f (suc k) = f k

-- k is one of 1 to m
unfoldable pub within : ℕ → ℕ → Bool
within m k = ltb 0 k && leb k m

-- the lowest of the m numbers from k on that passes
unfoldable pub lowest : ℕ → ℕ → (ℕ → Bool) → Option ℕ
lowest zero k p = None
lowest (suc m) k p = elim (p k) [ true ↦ Some k | false ↦ lowest m (suc k) p ]

-- the highest of 1 to m that passes
unfoldable pub highest : ℕ → (ℕ → Bool) → Option ℕ
highest zero p = None
highest (suc m) p = elim (p (suc m)) [ true ↦ Some (suc m) | false ↦ highest m p ]

-- each of 1 to m passes
unfoldable pub all_to : ℕ → (ℕ → Bool) → Bool
all_to zero p = true
all_to (suc m) p = p (suc m) && all_to m p

-- a, changed by f 1, then by f 2, .., then by f m
unfoldable pub each {ℓ} : {A : Type ℓ} → ℕ → (ℕ → A → A) → A → A
each zero f a = a
each (suc m) f a = f (suc m) (each m f a)

-- each element passes
unfoldable pub every {ℓ} : {A : Type ℓ} → (A → Bool) → List A → Bool
every p [] = true
every p (x ∷ xs) = p x && every p xs

-- some element passes
unfoldable pub any {ℓ} : {A : Type ℓ} → (A → Bool) → List A → Bool
any p [] = false
any p (x ∷ xs) = p x || any p xs

-- f k ++ f (k + 1) ++ .., for the m numbers from k on
unfoldable pub gather {ℓ} : {A : Type ℓ} → ℕ → ℕ → (ℕ → List A) → List A
gather zero k f = []
gather (suc m) k f = f k ++ gather m (suc k) f

-- f 1 + .. + f m
unfoldable pub sum : ℕ → (ℕ → ℕ) → ℕ
sum zero f = 0
sum (suc m) f = sum m f + f (suc m)

-- the greatest of f 1 to f m, 0 where m is 0
unfoldable pub greatest : ℕ → (ℕ → ℕ) → ℕ
greatest zero f = 0
greatest (suc m) f = elim (leb (f (suc m)) (greatest m f)) [ true ↦ greatest m f | false ↦ f (suc m) ]

unfoldable pub is_some : {A : Type 0} → Option A → Bool
is_some None = false
is_some (Some a) = true
