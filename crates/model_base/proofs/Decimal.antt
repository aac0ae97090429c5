-- A number in decimal: one digit, and one more.
use Rattle.std.proofs.Common.{◌≡◌, [], ◌∷◌, ◌++◌, ℕ, suc, ◌+◌, ◌/◌, ◌%◌, ◌<◌, ◌≤◌, lt-ltb, le-ltb}
use Rattle.model_base.specs.Decimal.{last_decimals}

pub one-digit : (most n : ℕ) → n < 10 → last_decimals (suc most) n ≡ (48 + n) ∷ []
unfolding last_decimals
one-digit most n h = rw (lt-ltb n 10 h, last_decimals)

pub more-digits : (most n : ℕ) → 10 ≤ n → last_decimals (suc most) n ≡ last_decimals most (n / 10) ++ ((48 + n % 10) ∷ [])
unfolding last_decimals
more-digits most n h = rw (le-ltb n 10 h, last_decimals)
