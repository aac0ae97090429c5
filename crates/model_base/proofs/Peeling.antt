-- A test of each of 1 to m, from either end and of two things at once; the bits of a part of a number, and numbers whose bits are 0 on one side.
use Rattle.std.proofs.Common.{ℕ, zero, suc, pred, ◌+◌, ◌-◌, ◌/◌, ◌%◌, ◌^◌, ◌≤◌, ◌<◌, ◌≡◌, refl, sym, ap, ◌∙◌, Bool, true, false, not, ◌&&◌, ◌||◌, div-one, lt_of_le_of_lt, mod-lt, arith, eqb, leb, ltb, pow_pos, shr-shr, eqb-true, eq-eqb, leb-false, ltb-true, ltb-false, le-ltb}
use mathlib.Core.Bool.{or-true}
use lib.Pow.{shr_le}
use Rattle.model_base.proofs.Bits.{bit-ext, bit-of-zero, bit-above, bit-field}
use borrow.Author.Tests.{lt-leb}
use Rattle.model_base.specs.Finite.{all_to}
use Rattle.model_base.specs.Bits.{bit}
use Rattle.model_base.proofs.Tests.{test}
use Rattle.model_base.proofs.Search.{all_to-at, to-all_to}

-- ---- from m down

pub all_to-over : (m : ℕ) (p : ℕ → Bool) → m ≡ 0 → all_to m p ≡ true
unfolding all_to
all_to-over m p e = rw e

-- ---- from 1 up

and-swap : (a b c : Bool) → a && (b && c) ≡ b && (a && c)
and-swap true b c = refl
and-swap false true c = refl
and-swap false false c = refl

pub all_to-first : (m : ℕ) (p : ℕ → Bool) → all_to (suc m) p ≡ p 1 && all_to m (λ k. p (suc k))
unfolding all_to
all_to-first zero p = refl
all_to-first (suc m) p =
    ap (λ (b : Bool). p (suc (suc m)) && b) (all_to-first m p) ∙ and-swap (p (suc (suc m))) (p 1) (all_to m (λ k. p (suc k)))

-- ---- two tests

pub all_to-same : (m : ℕ) (p q : ℕ → Bool) → ((k : ℕ) → 1 ≤ k → k ≤ m → p k ≡ q k) → all_to m p ≡ all_to m q
unfolding all_to
all_to-same zero p q h = refl
all_to-same (suc m) p q h = rw (h (suc m) (omega arith) (omega arith), all_to-same m p q (λ k l u. h k l (omega arith)))

and-pairs : (a b c d : Bool) → a && b && (c && d) ≡ a && c && (b && d)
and-pairs true b c d = and-swap b c d
and-pairs false b c d = refl

pub all_to-and : (m : ℕ) (p q : ℕ → Bool) → all_to m (λ k. p k && q k) ≡ all_to m p && all_to m q
unfolding all_to
all_to-and zero p q = refl
all_to-and (suc m) p q = rw (all_to-and m p q) (and-pairs (p (suc m)) (q (suc m)) (all_to m p) (all_to m q))

pub same_test : (a b : Bool) → (a ≡ true → b ≡ true) → (b ≡ true → a ≡ true) → a ≡ b
same_test true b f g = sym (f refl)
same_test false true f g = g refl
same_test false false f g = refl

-- ---- bits

pub zero_bits : (n x : ℕ) → x < 2 ^ n → ((k : ℕ) → k < n → bit x k ≡ false) → x ≡ 0
zero_bits n x h f = bit-ext n x 0 h (pow_pos n) (λ k l. f k l ∙ sym (bit-of-zero k))

clear : (a b : Bool) → b ≡ false → not a || b ≡ true → a ≡ false
clear true b e t = sym t ∙ e
clear false b e t = refl

pub bit-shr : (x a k : ℕ) → bit (x / 2 ^ a) k ≡ bit x (a + k)
unfolding bit
bit-shr x a k = rw (shr-shr x a k)

pub bit-low : (x a k : ℕ) → k < a → bit (x % 2 ^ a) k ≡ bit x k
bit-low x a k h = let e : 0 + k ≡ k = omega arith in rw (div-one, e) at (bit-field x 0 a k h)

-- a number below 2 ^ n whose bits from e on, or up to i, are 0, as a test of each bit k - 1
pub below-test : (n x e : ℕ) → x < 2 ^ n → all_to n (λ k. not (bit x (pred k)) || leb k e) ≡ eqb (x / 2 ^ e) 0
below-test n x e h =
    same_test (all_to n (λ k. not (bit x (pred k)) || leb k e)) (eqb (x / 2 ^ e) 0)
    (λ t. eq-eqb (x / 2 ^ e) 0 (zero_bits n (x / 2 ^ e) (lt_of_le_of_lt (shr_le x e) h) (λ k l. bit-shr x e k ∙ up t k)))
    (λ t. to-all_to n _ (λ k l u. test (leb k e) (λ d. rw (d, or-true)) (λ d. down (eqb-true _ _ t) k l (leb-false k e d))))
  where
    up : all_to n (λ k. not (bit x (pred k)) || leb k e) ≡ true → (k : ℕ) → bit x (e + k) ≡ false
    up t k =
        test (ltb (e + k) n)
        (λ d. clear (bit x (e + k)) (leb (suc (e + k)) e) (lt-leb (suc (e + k)) e (omega arith))
        (all_to-at n (λ k. not (bit x (pred k)) || leb k e) t (suc (e + k)) (omega arith) (ltb-true (e + k) n d)))
        (λ d. bit-above n x (e + k) h (ltb-false (e + k) n d))

    down : x / 2 ^ e ≡ 0 → (k : ℕ) → 1 ≤ k → e < k → not (bit x (pred k)) || leb k e ≡ true
    down z k l d =
        let i : pred k ≡ e + (pred k - e) = omega arith in
        rw (i, ← bit-shr x e (pred k - e), z, bit-of-zero)

pub above-test : (n x i : ℕ) → i ≤ n → all_to n (λ k. not (bit x (pred k)) || ltb i k) ≡ eqb (x % 2 ^ i) 0
above-test n x i h =
    same_test (all_to n (λ k. not (bit x (pred k)) || ltb i k)) (eqb (x % 2 ^ i) 0)
    (λ t. eq-eqb (x % 2 ^ i) 0 (zero_bits i (x % 2 ^ i) (mod-lt x (pow_pos i)) (λ k l. bit-low x i k l ∙
    clear (bit x k) (ltb i (suc k)) (le-ltb i (suc k) l) (all_to-at n (λ k. not (bit x (pred k)) || ltb i k) t (suc k) (omega arith) (omega arith)))))
    (λ t. to-all_to n _ (λ k l u. test (ltb i k) (λ d. rw (d, or-true)) (λ d. down (eqb-true _ _ t) k l (ltb-false i k d))))
  where
    down : x % 2 ^ i ≡ 0 → (k : ℕ) → 1 ≤ k → k ≤ i → not (bit x (pred k)) || ltb i k ≡ true
    down z k l d = rw (← bit-low x i (pred k) (omega arith), z, bit-of-zero)
