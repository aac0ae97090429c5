-- Numbers as bytes, low byte first, and back; a stretch of a list.
use Rattle.std.specs.Prelude.{ℕ, zero, suc, ◌+◌, ◌*◌, ◌/◌, ◌%◌, List, [], ◌∷◌, take, drop}

-- "Low byte first": k bytes of a number
unfoldable pub bytes_of : ℕ → ℕ → List ℕ
bytes_of zero x = []
bytes_of (suc k) x = x % 256 ∷ bytes_of k (x / 256)

unfoldable pub number_in : List ℕ → ℕ
number_in [] = 0
number_in (b ∷ bs) = b + 256 * number_in bs

-- so many bytes from a place on
unfoldable pub stretch : ℕ → ℕ → List ℕ → List ℕ
stretch from count s = take count (drop from s)
