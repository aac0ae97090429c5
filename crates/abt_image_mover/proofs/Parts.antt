-- A part of the bytes is a stretch of them, as long as it says, and its messages have low slots where all have.
use Rattle.std.proofs.Common.{ℕ, ◌+◌, ◌-◌, ◌≤◌, ◌≡◌, refl, ap, ◌∙◌, List, arith, length, take, drop, length-drop, length-take-le, take_at}
use Rattle.support_buffer.specs.Abstract.{over}
use Rattle.model_image.specs.Bytes.{stretch}

-- from a place to the one so many bytes behind it
pub part-is : (a w : ℕ) (s : List ℕ) → take (a + w - a) (drop a s) ≡ stretch a w s
unfolding stretch
part-is a w s = let e : a + w - a ≡ w = omega arith in ap (λ (k : ℕ). take k (drop a s)) e

pub part_length : (a w : ℕ) (s : List ℕ) → a + w ≤ length s → length (take (a + w - a) (drop a s)) ≡ w
part_length a w s h =
    let e : a + w - a ≡ w = omega arith in
    rw e (length-take-le w (drop a s) (omega (arith, length-drop a s)))

-- ---- what is put first stands at the buffer's start

module _ (old new bytes : List ℕ) (count : ℕ) (p : new ≡ over 0 bytes old) (e : length bytes ≡ count) where
  pub puts_first : take count new ≡ bytes
  puts_first = rw (← e) (ap (take (length bytes)) p ∙ take_at bytes (drop (0 + length bytes) old) (length bytes) refl)
