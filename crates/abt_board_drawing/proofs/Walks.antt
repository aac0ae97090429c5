-- What is gathered from a number on: what the number has, and behind it what those above it have.
use Rattle.std.proofs.Common.{◌≡◌, ℕ, suc, ◌+◌, ◌-◌, ◌<◌, ◌≤◌, List, [], ◌++◌, refl, arith}
use Rattle.model_base.specs.Finite.{gather}

-- of 1 to m, those above v
pub above-next : (m v : ℕ) (f : ℕ → List ℕ) → v < m → gather (m - v) (v + 1) f ≡ f (v + 1) ++ gather (m - (v + 1)) (v + 1 + 1) f
unfolding gather
above-next m v f l =
    let e : m - v ≡ suc (m - (v + 1)) = omega arith in
    let k : suc (v + 1) ≡ v + 1 + 1 = omega arith in
    rw (e, gather, k) refl

pub above-none : (m v : ℕ) (f : ℕ → List ℕ) → m ≤ v → gather (m - v) (v + 1) f ≡ []
unfolding gather
above-none m v f l = let e : m - v ≡ 0 = omega arith in rw (e, gather) refl

-- of 1 to m, those from v on
pub from-next : (m v : ℕ) (f : ℕ → List ℕ) → v ≤ m → gather (m + 1 - v) v f ≡ f v ++ gather (m + 1 - (v + 1)) (v + 1) f
unfolding gather
from-next m v f l =
    let e : m + 1 - v ≡ suc (m + 1 - (v + 1)) = omega arith in
    let k : suc v ≡ v + 1 = omega arith in
    rw (e, gather, k) refl

pub from-none : (m v : ℕ) (f : ℕ → List ℕ) → m < v → gather (m + 1 - v) v f ≡ []
unfolding gather
from-none m v f l = let e : m + 1 - v ≡ 0 = omega arith in rw (e, gather) refl
