-- Sets of small numbers as masks.
use Rattle.std.specs.Prelude.{ℕ, zero, suc, ◌+◌, ◌*◌, Bool, false, cond}
use Rattle.model_base.specs.Finite.{from_one}
use Rattle.model_base.specs.Bits.{bit}

-- the set of numbers from 1 on of a mask: bit 0 for 1
unfoldable pub members : ℕ → ℕ → Bool
members m = from_one false (bit m)

-- the mask of those of the n numbers from v on that pass: bit 0 for v
unfoldable pub mask_from : (ℕ → Bool) → ℕ → ℕ → ℕ
mask_from p v zero = 0
mask_from p v (suc n) = mask_from p (suc v) n * 2 + cond (p v) 1 0
