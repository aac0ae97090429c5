-- The mask of the stored reasons, as the loop builds it; and the reason that the mask and the left sides give.
use Rattle.std.proofs.Common.{ℕ, suc, pred, ◌+◌, ◌-◌, ◌*◌, ◌<◌, ◌≤◌, ◌≡◌, ap, Bool, List, arith, eqb, get_or}
use mir.Val.{bool_byte}
use Rattle.model_base.specs.Sets.{mask_from}
use Rattle.model_base.proofs.Masks.{byte_of, mask_fits, mask-down}

-- the reason of own value v is stored
abbrev pub marked : List ℕ → ℕ → ℕ → Bool
marked s at v = eqb (get_or s (at + 13 * pred v) 0) 1

module _ (s : List ℕ) (at mask v : ℕ) where
  pub next-mask : (b : ℕ) → 0 < v → v ≤ 8 → mask ≡ mask_from (marked s at) (suc v) (8 - v) → b ≡ get_or s (at + 13 * (v - 1)) 0
      → mask * 2 + bool_byte (eqb b 1) ≡ mask_from (marked s at) (suc (v - 1)) (8 - (v - 1))
  next-mask b l h e f =
      rw (mask-down (marked s at) 8 v l h, e)
      (ap (λ (n : ℕ). mask_from (marked s at) (suc v) (8 - v) * 2 + n) (rw f (byte_of (marked s at (suc (v - 1))))))

  -- there is room for it
  pub next_fits : 0 < v → mask ≡ mask_from (marked s at) (suc v) (8 - v) → mask < 128
  next_fits l e = rw e (mask_fits (marked s at) (suc v) (8 - v) 7 (omega arith))
