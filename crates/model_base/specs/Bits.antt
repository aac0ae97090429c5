-- Single bits of a number, from bit 0 up.
use Rattle.std.specs.Prelude.{ℕ, ◌+◌, ◌/◌, ◌%◌, ◌^◌, Bool, cond, eqb}

-- bit k of x is 1
unfoldable pub bit : ℕ → ℕ → Bool
bit x k = eqb (x / 2 ^ k % 2) 1

-- x with bit k set to 1
unfoldable pub with_bit : ℕ → ℕ → ℕ
with_bit x k = cond (bit x k) x (x + 2 ^ k)
