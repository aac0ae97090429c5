-- Signed bytes and gaps, as the machine has them.
-- A byte from 128 on is 256 less; a gap from -7 to 7 fits a signed byte.
use Rattle.std.proofs.Common.{ℕ, ◌+◌, ◌≤◌, ◌<◌, ◌≡◌, Bool, ◌&&◌, arith, eqb, ltb, ℤ, pos, ◌-ℤ◌, eqb-true, ltb-true, ltb-false, lt-ltb, w8, SFits, to_z, of_z, to_z-of_z}
use Rattle.model_base.proofs.Tests.{test}
use Rattle.model_sheet.specs.Row.{signed, gap}
use Rattle.model_sheet.proofs.Gaps.{gap_at}

-- it is the gap of the pairs on that diagonal
pub on-diagonal : (f : ℤ → Bool) (k v w : ℕ) → 1 ≤ v
    → eqb (w + 7) (k + v) && f (gap v w) ≡ eqb (w + 7) (k + v) && f (pos k -ℤ pos 7)
on-diagonal f k v w l =
    test (eqb (w + 7) (k + v))
    (λ e. rw (e, gap_at k v w l (eqb-true (w + 7) (k + v) e)))
    (λ e. rw e)

-- a signed byte handed over
pub signed-fits : (b : ℕ) → b < 256 → SFits w8 (signed b)
unfolding signed
signed-fits b h =
    test (ltb b 128)
    (λ e. record { sfits = rw e (omega (arith, ltb-true b 128 e)) })
    (λ e. record { sfits = rw (e, lt-ltb b 256 h) (omega (arith, ltb-false b 128 e)) })

pub handed : (b : ℕ) (z : ℤ) → b < 256 → z ≡ signed b → to_z w8 (of_z w8 z) ≡ signed b
handed b z h e = rw e (to_z-of_z (signed-fits b h))
