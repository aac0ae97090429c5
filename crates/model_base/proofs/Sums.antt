-- Sums over 1 to m: of equals, of two summands, of nothing, and where one number alone counts.
use Rattle.std.proofs.Common.{◌≡◌, refl, ◌≢◌, ℕ, zero, suc, ◌+◌, ◌≤◌, arith}
use Rattle.model_base.specs.Finite.{sum}
use Rattle.model_base.proofs.Tests.{eq_test}

pub sum_same : (m : ℕ) (f g : ℕ → ℕ) → ((k : ℕ) → 1 ≤ k → k ≤ m → f k ≡ g k) → sum m f ≡ sum m g
unfolding sum
sum_same zero f g h = refl
sum_same (suc m) f g h =
    omega (arith, h (suc m) (omega arith) (omega arith), sum_same m f g (λ k l u. h k l (omega arith)))

pub sum-add : (m : ℕ) (f g : ℕ → ℕ) → sum m (λ k. f k + g k) ≡ sum m f + sum m g
unfolding sum
sum-add zero f g = refl
sum-add (suc m) f g = omega (arith, sum-add m f g)

pub sum-none : (m : ℕ) (f : ℕ → ℕ) → ((k : ℕ) → 1 ≤ k → k ≤ m → f k ≡ 0) → sum m f ≡ 0
unfolding sum
sum-none zero f h = refl
sum-none (suc m) f h = omega (arith, h (suc m) (omega arith) (omega arith), sum-none m f (λ k l u. h k l (omega arith)))

pub sum_one : (m i : ℕ) (f : ℕ → ℕ) → 1 ≤ i → i ≤ m → ((k : ℕ) → k ≢ i → f k ≡ 0) → sum m f ≡ f i
unfolding sum
sum_one zero i f l u h = absurd (omega arith)
sum_one (suc m) i f l u h =
    eq_test i (suc m)
    (λ e. rw e (omega (arith, sum-none m f (λ k a b. h k (λ q. omega arith)))))
    (λ n. omega (arith, h (suc m) (λ q. omega (arith, n)), sum_one m i f l (omega (arith, n)) h))
