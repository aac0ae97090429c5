-- Each of 1 to m, tested from 1 up: all up to k passed, and the next one passes too, or fails and so do all.
use Rattle.std.proofs.Common.{◌≡◌, sym, ◌∙◌, Bool, true, false, ℕ, ◌+◌, ◌<◌, add-one, arith}
use mathlib.Core.Bool.{false≢true}
use Rattle.model_base.specs.Finite.{all_to}
use Rattle.model_base.proofs.Tests.{test}
use Rattle.model_base.proofs.Search.{all_to-at}

pub all_to-more : (k : ℕ) (p : ℕ → Bool) → all_to k p ≡ true → p (k + 1) ≡ true → all_to (k + 1) p ≡ true
unfolding all_to
all_to-more k p t h = rw add-one (rw (rw add-one at h) t)

pub all_to-misses : (m : ℕ) (p : ℕ → Bool) (k : ℕ) → k < m → p (k + 1) ≡ false → all_to m p ≡ false
all_to-misses m p k l h =
    test (all_to m p) (λ t. absurd (false≢true (sym h ∙ all_to-at m p t (k + 1) (omega arith) (omega arith)))) (λ t. t)
