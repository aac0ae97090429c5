-- A value is known exactly where it is not 0.
-- Tests turned into bounds and back.
use Rattle.std.proofs.Common.{ℕ, zero, suc, ◌≤◌, ◌≡◌, refl, true, not, arith, eqb, lt-ltb, ltb-true}
use lib.Dec.{eqb-suc-zero}
use Rattle.model_agent.specs.Message.{known}

pub known-suc : (v : ℕ) → known (suc v) ≡ true
unfolding known
known-suc v = lt-ltb 0 (suc v) (omega arith)

pub known_from : (v : ℕ) → 1 ≤ v → known v ≡ true
unfolding known
known_from v h = lt-ltb 0 v h

pub known-true : (v : ℕ) → known v ≡ true → 1 ≤ v
unfolding known
known-true v e = ltb-true 0 v e

-- as the code tests it
pub unknown : (u : ℕ) → not (known u) ≡ eqb u 0
unfolding known
unknown zero = refl
unknown (suc u) = rw (known-suc u, eqb-suc-zero u)
