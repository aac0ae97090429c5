-- Words as sets of gaps: those that were there, one more, and more behind others.
-- Bit by bit; a power of two has one bit.
use Rattle.std.proofs.Common.{ℕ, ◌+◌, ◌*◌, ◌%◌, ◌^◌, ◌<◌, ◌≡◌, sym, ap, ◌∙◌, Bool, false, ◌||◌, mod-eq_of_lt, add-one, arith, eqb, bit_or, eqb-true, eq-eqb}
use mathlib.Core.Bool.{or-false, or_assoc}
use lib.Bits.{or_lt}
use lib.Pow.{pow-lt}
use Rattle.model_base.specs.Bits.{bit}
use Rattle.model_base.proofs.Bits.{bit-or, bit-pow}
use Rattle.model_base.proofs.Peeling.{same_test}
use Rattle.model_editions.specs.Gaps.{some_to}
use Rattle.theorems_editions.proofs.Sayable.{some-none, some-last}
use Rattle.sheet_editions.specs.Rows.{Marked}

pub renamed : (x y : ℕ) (f g : ℕ → Bool) → Marked x y f → ((k : ℕ) → f k ≡ g k) → Marked x y g
renamed x y f g m e = record { short = m.short; bits = λ k. m.bits k ∙ ap (λ (b : Bool). bit x k || b) (e k) }

pub marked-none : (x : ℕ) → x < 2 ^ 15 → Marked x x (λ k. false)
marked-none x h = record { short = h; bits = λ k. sym (or-false (bit x k)) }

pub marked-then : (x y z : ℕ) (f g : ℕ → Bool) → Marked x y f → Marked y z g → Marked x z (λ k. f k || g k)
marked-then x y z f g m n =
    record { short = n.short; bits = λ k. n.bits k ∙ rw (m.bits k) (or_assoc (bit x k) (f k) (g k)) }

same-sides : (a b : ℕ) → eqb a b ≡ eqb b a
same-sides a b = same_test _ _ (λ t. eq-eqb b a (sym (eqb-true a b t))) (λ t. eq-eqb a b (sym (eqb-true b a t)))

-- one gap more
pub marked-one : (x j : ℕ) → x < 2 ^ 15 → j < 15 → Marked x (bit_or x (1 * 2 ^ j % 2 ^ 64)) (λ k. eqb j k)
marked-one x j h l =
    let small : 2 ^ j < 2 ^ 64 = pow-lt {i = j} {j = 64} (omega arith) in
    let whole : 1 * 2 ^ j ≡ 2 ^ j = omega arith in
    rw (whole, mod-eq_of_lt small)
    (record {
      short = or_lt 15 x (2 ^ j) h (pow-lt {i = j} {j = 15} l);
      bits = λ k. bit-or x (2 ^ j) k ∙ rw (bit-pow j k, same-sides k j);
    })

-- ---- those that one of 1 to m names

module _ (f : ℕ → ℕ → Bool) (x : ℕ) where
  pub some-none-yet : x < 2 ^ 15 → Marked x x (λ k. some_to 0 (λ v. f v k))
  some-none-yet h = renamed x x _ _ (marked-none x h) (λ k. sym (some-none (λ v. f v k)))

  pub some_more : (m j n y z : ℕ) → j ≡ m + 1 → n ≡ m + 1 → Marked x y (λ k. some_to m (λ v. f v k)) → Marked y z (f j) → Marked x z (λ k. some_to n (λ v. f v k))
  some_more m j n y z e o p q =
      renamed x z _ _ (marked-then x y z _ _ p q) (λ k. rw (e, o, add-one m) (sym (some-last m (λ v. f v k))))
