-- A test of each of 1 to m, one after the other from 1 up.
-- Where all below i passed and m is below i, it holds; one that fails decides it.
use Rattle.std.proofs.Common.{ℕ, ◌+◌, ◌≤◌, ◌<◌, ◌≡◌, refl, sym, ◌∙◌, Bool, true, false, arith, below_more}
use Rattle.model_base.specs.Finite.{all_to}
use Rattle.model_base.proofs.Search.{all_to-at, to-all_to}

-- those below i pass
abbrev pub Passed : (ℕ → Bool) → ℕ → Type 0
Passed p i = (k : ℕ) → k < i → 1 ≤ k → p k ≡ true

pub one_passed : (p : ℕ → Bool) (i : ℕ) → Passed p i → p i ≡ true → Passed p (i + 1)
one_passed p i before here = below_more (λ k. 1 ≤ k → p k ≡ true) i before (λ l. here)

pub all_passed : (m : ℕ) (p : ℕ → Bool) → Passed p (m + 1) → all_to m p ≡ true
all_passed m p h = to-all_to m p (λ k l u. h k (omega arith) l)

pub one_fails : (m : ℕ) (p : ℕ → Bool) (i : ℕ) → 1 ≤ i → i ≤ m → p i ≡ false → all_to m p ≡ false
one_fails m p i l u h = by (all_to m p) (λ t. sym (all_to-at m p t i l u) ∙ h)
  where
    by : (b : Bool) → (b ≡ true → true ≡ false) → b ≡ false
    by true f = f refl
    by false f = refl
