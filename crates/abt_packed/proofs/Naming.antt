-- How many agents a word names: one fewer where a name is taken off.
use Rattle.std.proofs.Common.{ℕ, zero, suc, ◌≤◌, ◌<◌, ◌≡◌, refl, Bool, true, not, cond, arith}
use Rattle.model_base.specs.Finite.{at, sum}
use Rattle.model_base.proofs.Tests.{test, eq_test}
use Rattle.model_base.proofs.Search.{at_same, at_other}
use Rattle.model_base.proofs.Counting.{misses, misses-lt}
use Rattle.model_agent.specs.Message.{known}
use Rattle.model_agent.specs.Shape.{max_named}
use Rattle.abt_packed.specs.Packed.{assignment}
pub use Rattle.abt_packed.specs.Packed.{naming}

sum-misses : (m : ℕ) (p : ℕ → Bool) → sum m (λ k. cond (p k) 1 0) ≡ misses m (λ k. not (p k))
unfolding sum misses
sum-misses zero p = refl
sum-misses (suc m) p =
    let i = sum-misses m p in
    test (p (suc m)) (λ e. rw e (omega (arith, i))) (λ e. rw e (omega (arith, i)))

missed : (x : ℕ) → naming x ≡ misses 16 (λ k. not (known (assignment x k)))
unfolding naming max_named
missed x = sum-misses 16 (λ k. known (assignment x k))

pub naming-fewer : (x y k : ℕ) → 1 ≤ k → k ≤ 16 → known (assignment x k) ≡ true → assignment y ≡ at (assignment x) k 0
    → naming y < naming x
unfolding known
naming-fewer x y k l u h e =
    rw (missed x, missed y) (misses-lt 16 (λ j. not (known (assignment x j))) (λ j. not (known (assignment y j))) more k l u (rw h) (rw (e, at_same (assignment x) k 0)))
  where
    more : (j : ℕ) → not (known (assignment x j)) ≡ true → not (known (assignment y j)) ≡ true
    more j t = rw e (eq_test j k (λ q. rw (q, at_same (assignment x) k 0)) (λ n. rw (at_other (assignment x) k 0 j n) t))
