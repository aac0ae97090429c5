-- The gap of a pair of values, as one of the fifteen from -7 to 7.
-- Negative where the lower's value is the higher one.
use Rattle.std.proofs.Common.{ℕ, zero, suc, ◌+◌, ◌-◌, ◌≤◌, ◌<◌, ◌≡◌, arith, ltb, pos, ◌-ℤ◌, ltb-true, ltb-false, lt-ltb, le-ltb}
use Rattle.model_base.proofs.Tests.{test}
use Rattle.model_sheet.specs.Row.{gap}

pub gap_at : (k v w : ℕ) → 1 ≤ v → w + 7 ≡ k + v → gap v w ≡ pos k -ℤ pos 7
unfolding gap
gap_at k zero w l e = absurd (omega arith)
gap_at k (suc v) w l e =
    test (ltb k 7)
    (λ t.
    let below : w < suc v = omega (arith, ltb-true k 7 t) in
    let same : suc v - suc w ≡ 7 - suc k = omega (arith, ltb-true k 7 t) in
    rw (t, lt-ltb w (suc v) below, same))
    (λ t.
    let above : suc v ≤ w = omega (arith, ltb-false k 7 t) in
    let same : w - suc v ≡ k - 7 = omega (arith, ltb-false k 7 t) in
    rw (t, le-ltb w (suc v) above, same))
