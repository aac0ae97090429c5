-- The agents that a word names as a set: one bit of each digit, and these bits drawn together in four steps.
-- Each group of 4 g bits has g bits lowest and 0 above; a step makes one group of two, 8 g bits with the 2 g of both lowest.
use Rattle.std.proofs.Common.{ℕ, zero, suc, pred, ◌+◌, ◌*◌, ◌-◌, ◌/◌, ◌%◌, ◌^◌, ◌<◌, ◌≤◌, ◌≡◌, refl, sym, ap, ◌∙◌, Bool, true, false, cond, ◌&&◌, ◌||◌, arith, bit_and, bit_or, eqb, ltb, eqb-true, ltb-true, ltb-false}
use mathlib.Core.Bool.{or-false, and-true, and-false}
use lib.Bits.{and_le_r}
use lib.Pow.{ones_lt}
use Rattle.model_base.specs.Finite.{from_one, all_to}
use Rattle.model_base.specs.Bits.{bit}
use Rattle.model_base.proofs.Tests.{test}
use Rattle.model_base.proofs.Search.{all_to-at}
use Rattle.model_base.proofs.Bits.{bit-of-zero, bit-above, bit-and, bit-or, bit-field}
use Rattle.model_base.proofs.Peeling.{bit-shr}
use Rattle.model_agent.specs.Message.{known}
use Rattle.model_base.specs.Sets.{members}
use Rattle.abt_packed.specs.Packed.{digit, assignment}
use Rattle.abt_packed.proofs.Bitwise.{bit-ones}
use Rattle.abt_packed.proofs.Digits.{digit-above, digit-bit}
use Rattle.abt_packed.proofs.Wordwise.{marks, digit-marks}

-- in each of n groups of 4 g bits, the g lowest are the next of b, and the others are 0
record Spread (n g : ℕ) (b : ℕ → Bool) (w : ℕ) : Type 0 where
  low : (q r : ℕ) → q < n → r < g → bit w (4 * g * q + r) ≡ b (g * q + r)
  high : (q r : ℕ) → q < n → g ≤ r → r < 4 * g → bit w (4 * g * q + r) ≡ false

-- a mask of the g lowest of each, as a test of each group
masks : ℕ → ℕ → ℕ → Bool
masks n g m = all_to n (λ k. eqb (m / 2 ^ (4 * g * pred k) % 2 ^ (4 * g)) (2 ^ g - 1))

all-spread : (n g m : ℕ) → masks n g m ≡ true → Spread n g (λ k. true) m
unfolding masks
all-spread n g m t =
    record {
      low = λ q r h l. group q r h (omega arith) ∙ bit-ones g r l;
      high = λ q r h l u. group q r h u ∙ bit-above g (2 ^ g - 1) r (ones_lt g) l;
    }
  where
    group : (q r : ℕ) → q < n → r < 4 * g → bit m (4 * g * q + r) ≡ bit (2 ^ g - 1) r
    group q r h u =
        sym (bit-field m (4 * g * q) (4 * g) r u)
        ∙ ap (λ (y : ℕ). bit y r)
        (eqb-true _ _ (all_to-at n (λ k. eqb (m / 2 ^ (4 * g * pred k) % 2 ^ (4 * g)) (2 ^ g - 1)) t (suc q) (omega arith) h))

-- ---- a step

unfoldable pub drawn : ℕ → ℕ → ℕ → ℕ
drawn g w m = bit_and (bit_or w (w / 2 ^ (3 * g))) m

drawn-le : (g w m : ℕ) → drawn g w m ≤ m
unfolding drawn
drawn-le g w m = and_le_r (bit_or w (w / 2 ^ (3 * g))) m

drawn-spread : (n g m : ℕ) {b : ℕ → Bool} {w : ℕ} → Spread (2 * n) g b w → masks n (2 * g) m ≡ true → Spread n (2 * g) b (drawn g w m)
unfolding drawn
drawn-spread n g m {b} {w} s t =
    let mask = all-spread n (2 * g) m t in
    record {
      low = λ q r h l. bits (4 * (2 * g) * q + r) ∙ rw (mask.low q r h l, and-true) (either q r h l);
      high = λ q r h l u. bits (4 * (2 * g) * q + r) ∙ rw (mask.high q r h l u, and-false);
    }
  where
    bits : (p : ℕ) → bit (drawn g w m) p ≡ (bit w p || bit w (3 * g + p)) && bit m p
    bits p = rw (bit-and (bit_or w (w / 2 ^ (3 * g))) m p, bit-or w (w / 2 ^ (3 * g)) p, bit-shr w (3 * g) p)

    -- the lower group's bits are there, and the upper group's come down to them
    either : (q r : ℕ) → q < n → r < 2 * g → bit w (4 * (2 * g) * q + r) || bit w (3 * g + (4 * (2 * g) * q + r)) ≡ b (2 * g * q + r)
    either q r h l =
        let near : 4 * (2 * g) * q + r ≡ 4 * g * (2 * q) + r = omega arith in
        rw near
        (test (ltb r g)
        (λ e.
        let far : 3 * g + (4 * g * (2 * q) + r) ≡ 4 * g * (2 * q) + (3 * g + r) = omega arith in
        let own : 2 * g * q + r ≡ g * (2 * q) + r = omega arith in
        rw (far, s.high (2 * q) (3 * g + r) (omega arith) (omega arith) (omega (arith, ltb-true r g e)), or-false, own)
        (s.low (2 * q) r (omega arith) (ltb-true r g e)))
        (λ e.
        let u = ltb-false r g e in
        let far : 3 * g + (4 * g * (2 * q) + r) ≡ 4 * g * (2 * q + 1) + (r - g) = omega arith in
        let own : 2 * g * q + r ≡ g * (2 * q + 1) + (r - g) = omega arith in
        rw (s.high (2 * q) r (omega arith) u (omega arith), far, own)
        (s.low (2 * q + 1) (r - g) (omega arith) (omega arith))))

-- ---- the first, a bit of each digit

marks-spread : (x : ℕ) → x < 2 ^ 64 → Spread 16 1 (λ k. known (digit x k)) (marks x)
unfolding bit
marks-spread x h =
    record {
      low = λ q r l u. group q r (omega arith) ∙ first q r (omega arith);
      high = λ q r l u w. group q r w ∙ above r u (known (digit x q));
    }
  where
    group : (q r : ℕ) → r < 4 → bit (marks x) (4 * q + r) ≡ bit (cond (known (digit x q)) 1 0) r
    group q r u = sym (digit-bit (marks x) q r u) ∙ ap (λ (y : ℕ). bit y r) (digit-marks x q h)

    same : (a : Bool) → bit (cond a 1 0) 0 ≡ a
    same true = refl
    same false = refl

    first : (q r : ℕ) → r ≡ 0 → bit (cond (known (digit x q)) 1 0) r ≡ known (digit x (1 * q + r))
    first q r z = let e : 1 * q + 0 ≡ q = omega arith in rw (z, e) (same (known (digit x q)))

    above : (r : ℕ) → 1 ≤ r → (a : Bool) → bit (cond a 1 0) r ≡ false
    above r l true = bit-above 1 1 r (omega arith) l
    above r l false = bit-of-zero r

-- ---- as the code has it

unfoldable pub gathered : ℕ → ℕ
gathered x = drawn 8 (drawn 4 (drawn 2 (drawn 1 (marks x) 217020518514230019) 4222189076152335) 1095216660735) 65535

gathered-spread : (x : ℕ) → x < 2 ^ 64 → Spread 1 16 (λ k. known (digit x k)) (gathered x)
unfolding gathered masks all_to
gathered-spread x h =
    let twos = drawn-spread 8 1 217020518514230019 (marks-spread x h) refl in
    let fours = drawn-spread 4 2 4222189076152335 twos refl in
    let eights = drawn-spread 2 4 1095216660735 fours refl in
    drawn-spread 1 8 65535 eights refl

pub gathered-le : (x : ℕ) → gathered x ≤ 65535
unfolding gathered
gathered-le x = drawn-le 8 _ 65535

pub gathered-named : (x : ℕ) → x < 2 ^ 64 → (k : ℕ) → members (gathered x) k ≡ known (assignment x k)
unfolding members assignment from_one known
gathered-named x h zero = refl
gathered-named x h (suc k) =
    test (ltb k 16)
    (λ t. let e : 0 + k ≡ k = omega arith in rw e at ((gathered-spread x h).low 0 k (omega arith) (ltb-true k 16 t)))
    (λ t.
    let u = ltb-false k 16 t in
    rw (digit-above 16 x k h u) (bit-above 16 (gathered x) k (omega (arith, gathered-le x)) u))
