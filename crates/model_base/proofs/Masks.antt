-- Masks of own values: their bits are what passes, and their trailing zeros give the lowest value that does.
-- A loop builds one from the highest value down, a doubling each, as the definition recurses, or from the lowest up, a bit each.
use Rattle.std.proofs.Common.{None, Option, Some, ℕ, zero, suc, ◌+◌, ◌-◌, ◌*◌, ◌/◌, ◌%◌, ◌^◌, ◌<◌, ◌≤◌, ◌≡◌, refl, sym, ap, ◌∙◌, Bool, true, false, cond, pow-suc, not-suc-le-zero, le_of_suc-le-suc, lt_of_lt_of_le, add-suc, suc-add, add-zero, add-one, arith, bit_or, eqb, pow_mono, shl_exact, eqb-true}
use lib.Bits.{or_shifted_r}
use lib.Count.{count_trailing_zeros}
use mir.Val.{bool_byte}
use borrow.Author.Tests.{eqb-false}
use Rattle.model_base.specs.Finite.{lowest}
use Rattle.model_base.specs.Bits.{bit}
use Rattle.model_base.proofs.Tests.{test}
use Rattle.model_base.proofs.Bits.{bit-zero, bit-suc}
use Rattle.model_base.specs.Sets.{mask_from}

-- ---- the mask

one-lt : (b : Bool) → cond b 1 0 < 2
one-lt true = omega arith
one-lt false = omega arith

one_bit : (b : Bool) → eqb (cond b 1 0) 1 ≡ b
one_bit true = refl
one_bit false = refl

pub byte-lt : (b : Bool) → bool_byte b < 2
byte-lt true = omega arith
byte-lt false = omega arith

pub byte_of : (b : Bool) → bool_byte b ≡ cond b 1 0
byte_of true = refl
byte_of false = refl

mask_lt : (p : ℕ → Bool) (v n : ℕ) → mask_from p v n < 2 ^ n
unfolding mask_from
mask_lt p v zero = omega arith
mask_lt p v (suc n) = rw pow-suc (omega (arith, mask_lt p (suc v) n, one-lt (p v)))

pub mask_fits : (p : ℕ → Bool) (v n m : ℕ) → n ≤ m → mask_from p v n < 2 ^ m
mask_fits p v n m h = lt_of_lt_of_le (mask_lt p v n) (pow_mono h)

pub mask-bit : (p : ℕ → Bool) (v n k : ℕ) → k < n → bit (mask_from p v n) k ≡ p (v + k)
unfolding mask_from
mask-bit p v zero k h = absurd (not-suc-le-zero h)
mask-bit p v (suc n) zero h =
    let q : (mask_from p (suc v) n * 2 + cond (p v) 1 0) % 2 ≡ cond (p v) 1 0 = omega (arith, one-lt (p v)) in
    rw (bit-zero, q, add-zero v) (one_bit (p v))
mask-bit p v (suc n) (suc k) h =
    let q : (mask_from p (suc v) n * 2 + cond (p v) 1 0) / 2 ≡ mask_from p (suc v) n = omega (arith, one-lt (p v)) in
    rw (bit-suc, q, add-suc v k, ← suc-add v k) (mask-bit p (suc v) n k (le_of_suc-le-suc h))

-- a number with such bits
pub mask_is : (p : ℕ → Bool) (v n x : ℕ) → x < 2 ^ n → ((k : ℕ) → k < n → bit x k ≡ p (v + k)) → x ≡ mask_from p v n
unfolding mask_from
mask_is p v zero x h f = omega arith
mask_is p v (suc n) x h f =
    let g : x < 2 ^ n * 2 = rw pow-suc at h in
    let low : eqb (x % 2) 1 ≡ p v = rw add-zero at (sym (bit-zero x) ∙ f 0 (omega arith)) in
    let high = mask_is p (suc v) n (x / 2) (omega arith) (λ k l. sym (bit-suc x k) ∙ f (suc k) (omega arith) ∙ rw (add-suc v k, ← suc-add v k)) in
    rw (← high, ← low)
    (test (eqb (x % 2) 1)
    (λ e. rw e (omega (arith, eqb-true (x % 2) 1 e)))
    (λ e. rw e (omega (arith, eqb-false (x % 2) 1 e))))

-- one turn of the loop that builds it from above
pub mask-down : (p : ℕ → Bool) (d i : ℕ) → 0 < i → i ≤ d
    → mask_from p (suc (i - 1)) (d - (i - 1)) ≡ mask_from p (suc i) (d - i) * 2 + cond (p (suc (i - 1))) 1 0
unfolding mask_from
mask-down p d (suc i) l h =
    let e : suc i - 1 ≡ i = omega arith in
    let g : d - i ≡ suc (d - suc i) = omega arith in
    rw (e, g)
mask-down p d zero l h = absurd (not-suc-le-zero l)

-- one number more at the upper end
mask-more : (p : ℕ → Bool) (v n : ℕ) → mask_from p v (suc n) ≡ mask_from p v n + cond (p (v + n)) (2 ^ n) 0
unfolding mask_from
mask-more p v zero = rw (add-zero v) refl
mask-more p v (suc n) =
    rw (mask-more p (suc v) n, add-suc v n, ← suc-add v n)
    (test (p (suc v + n)) (λ e. rw e (omega (arith, pow-suc 2 n))) (λ e. rw e (omega arith)))

-- one turn of the loop that builds it from below, as the code has it
pub mask-up : (p : ℕ → Bool) (i : ℕ) → i < 8
    → mask_from p 1 (i + 1) ≡ cond (p (suc i)) (bit_or (mask_from p 1 i) (1 * 2 ^ i % 2 ^ 8)) (mask_from p 1 i)
mask-up p i h =
    let o : bit_or (mask_from p 1 i) (1 * 2 ^ i % 2 ^ 8) ≡ mask_from p 1 i + 2 ^ i =
    rw (shl_exact {a = 1} 1 i 8 (omega arith) (omega arith)) (or_shifted_r 1 i (mask_from p 1 i) (mask_lt p 1 i) ∙ omega arith) in
    let next : 1 + i ≡ suc i = omega arith in
    rw (add-one i, mask-more p 1 i, o, next) (test (p (suc i)) (λ e. rw e) (λ e. rw e (add-zero (mask_from p 1 i))))

-- ---- the lowest value that passes

first : (b : Bool) (w v m : ℕ) (o : Option ℕ) → (0 < m → o ≡ Some (suc v + count_trailing_zeros w m)) → 0 < m * 2 + cond b 1 0
    → elim b as (λ _. Option ℕ) [ true ↦ Some v | false ↦ o ] ≡ Some (v + count_trailing_zeros (suc w) (m * 2 + cond b 1 0))
unfolding count_trailing_zeros
first true w v m o h l =
    let q : (m * 2 + 1) % 2 ≡ 1 = omega arith in ap Some (let e : v ≡ v + 0 = omega arith in rw q e)
first false w v m o h l =
    let q : (m * 2 + 0) % 2 ≡ 0 = omega arith in
    let d : (m * 2 + 0) / 2 ≡ m = omega arith in
    h (omega arith) ∙ ap Some (rw (q, d) (let e : suc v + count_trailing_zeros w m ≡ v + suc (count_trailing_zeros w m) = omega arith in e))

pub mask-lowest : (p : ℕ → Bool) (v n w : ℕ) → n ≤ w → 0 < mask_from p v n
    → lowest n v p ≡ Some (v + count_trailing_zeros w (mask_from p v n))
unfolding mask_from lowest
mask-lowest p v zero w h l = absurd (not-suc-le-zero l)
mask-lowest p v (suc n) zero h l = absurd (not-suc-le-zero h)
mask-lowest p v (suc n) (suc w) h l =
    first (p v) w v (mask_from p (suc v) n) (lowest n (suc v) p) (λ q. mask-lowest p (suc v) n w (le_of_suc-le-suc h) q) l

pub mask-none : (p : ℕ → Bool) (v n : ℕ) → mask_from p v n ≡ 0 → lowest n v p ≡ None
unfolding mask_from lowest
mask-none p v zero e = refl
mask-none p v (suc n) e =
    test (p v)
    (λ t. absurd (let z : mask_from p (suc v) n * 2 + 1 ≡ 0 = rw t at e in omega arith))
    (λ t. rw (t, lowest) (mask-none p (suc v) n (let z : mask_from p (suc v) n * 2 + 0 ≡ 0 = rw t at e in omega arith)))
