-- Two words compared digit by digit, all digits at once.
-- Digits of odd place are low halves of bytes: 128 more than one less another has the byte's top bit exactly where it is not below the other, and
-- nothing is borrowed from the next byte.
use Rattle.std.proofs.Common.{ℕ, zero, suc, ◌+◌, ◌*◌, ◌-◌, ◌/◌, ◌%◌, ◌^◌, ◌≤◌, ◌<◌, ◌≡◌, refl, sym, ap, ◌∙◌, Bool, true, false, ◌&&◌, arith, bit_and, eqb, leb, eqb-true, eq-eqb, ne_eqb, leb-true, leb-false}
use mathlib.Core.Bool.{and_assoc, and-false}
use lib.Bits.{and_block, and_mask, and_high, and_zero_r}
use borrow.Author.Tests.{eqb-false}
use Rattle.model_base.specs.Finite.{all_to}
use Rattle.model_base.proofs.Tests.{test}
use Rattle.model_base.proofs.Peeling.{all_to-first, all_to-same}
use Rattle.model_agent.specs.Shape.{max_named}
use Rattle.abt_packed.specs.Packed.{assignment}
use Rattle.abt_packed.proofs.Digits.{assigned-first, assigned-next}

-- ---- n bytes

-- n bytes b
repeated : ℕ → ℕ → ℕ
repeated b zero = 0
repeated b (suc n) = repeated b n * 256 + b

low_halves : (n x : ℕ) → bit_and x (repeated 15 (suc n)) ≡ bit_and (x / 256) (repeated 15 n) * 256 + x % 16
unfolding repeated
low_halves n x =
    let e : x ≡ x / 256 * 2 ^ 8 + x % 256 = omega arith in
    ap (λ (y : ℕ). bit_and y (repeated 15 n * 256 + 15)) e
    ∙ and_block 8 (x / 256) (repeated 15 n) (x % 256) 15 (omega arith) (omega arith)
    ∙ ap (λ (y : ℕ). bit_and (x / 256) (repeated 15 n) * 256 + y) (and_mask (x % 256) 4 ∙ omega arith)

top-bits : (n e r : ℕ) → r < 256 → bit_and (e * 256 + r) (repeated 128 (suc n)) ≡ bit_and e (repeated 128 n) * 256 + r / 128 * 128
unfolding repeated
top-bits n e r h =
    and_block 8 e (repeated 128 n) r 128 h (omega arith)
    ∙ ap (λ (y : ℕ). bit_and e (repeated 128 n) * 256 + y) (and_high r 1 7 ∙ omega arith)

-- the digit of odd place of byte j, from 1
abbrev pub odd_at_most : ℕ → ℕ → ℕ → Bool
odd_at_most x y j = leb (assignment x (2 * j - 1)) (assignment y (2 * j - 1))

-- 128 more than y's, less x's
apart : ℕ → ℕ → ℕ → ℕ
apart n x y = bit_and y (repeated 15 n) + repeated 128 n - bit_and x (repeated 15 n)

enough : (n x y : ℕ) → bit_and x (repeated 15 n) ≤ bit_and y (repeated 15 n) + repeated 128 n
unfolding repeated
enough zero x y = rw (and_zero_r x) (omega arith)
enough (suc n) x y = rw (low_halves n x, low_halves n y) (omega (arith, enough n (x / 256) (y / 256)))

apart-step : (n x y : ℕ) → apart (suc n) x y ≡ apart n (x / 256) (y / 256) * 256 + (y % 16 + 128 - x % 16)
unfolding apart repeated
apart-step n x y = rw (low_halves n x, low_halves n y) (omega (arith, enough n (x / 256) (y / 256)))

two-parts : (a b r s : ℕ) → r < 256 → s < 256 → eqb (a * 256 + r) (b * 256 + s) ≡ eqb r s && eqb a b
two-parts a b r s h l =
    test (eqb r s)
    (λ e. let d = eqb-true r s e in rw e
    (test (eqb a b)
    (λ f. let g = eqb-true a b f in rw f (eq-eqb (a * 256 + r) (b * 256 + s) (omega arith)))
    (λ f. rw f (ne_eqb (a * 256 + r) (b * 256 + s) (λ z. eqb-false a b f (omega arith))))))
    (λ e. rw e (ne_eqb (a * 256 + r) (b * 256 + s) (λ z. eqb-false r s e (omega arith))))

one_byte : (a b : ℕ) → a < 16 → b < 16 → eqb ((b + 128 - a) / 128 * 128) 128 ≡ leb a b
one_byte a b h l =
    test (leb a b)
    (λ e. rw e (eq-eqb ((b + 128 - a) / 128 * 128) 128 (omega (arith, leb-true a b e))))
    (λ e. rw e (ne_eqb ((b + 128 - a) / 128 * 128) 128 (λ z. omega (arith, leb-false a b e))))

next-byte : (x j : ℕ) → 1 ≤ j → assignment x (2 * suc j - 1) ≡ assignment (x / 256) (2 * j - 1)
next-byte x j h =
    let e : 2 * suc j - 1 ≡ suc (suc (2 * j - 1)) = omega arith in
    let d : x / 16 / 16 ≡ x / 256 = omega arith in
    rw (e, assigned-next x (suc (2 * j - 1)) (omega arith), assigned-next (x / 16) (2 * j - 1) (omega arith), d)

compared : (n x y : ℕ) → eqb (bit_and (apart n x y) (repeated 128 n)) (repeated 128 n) ≡ all_to n (odd_at_most x y)
unfolding repeated all_to
compared zero x y = rw (and_zero_r (apart 0 x y))
compared (suc n) x y =
    rw (apart-step n x y, top-bits n (apart n (x / 256) (y / 256)) (y % 16 + 128 - x % 16) (omega arith))
    (two-parts (bit_and (apart n (x / 256) (y / 256)) (repeated 128 n)) (repeated 128 n) ((y % 16 + 128 - x % 16) / 128 * 128) 128 (omega arith) (omega arith)
    ∙ rw (one_byte (x % 16) (y % 16) (omega arith) (omega arith), compared n (x / 256) (y / 256))
    (sym (all_to-first n (odd_at_most x y)
    ∙ rw (assigned-first x, assigned-first y)
    (ap (λ (b : Bool). leb (x % 16) (y % 16) && b)
    (all_to-same n _ _ (λ j l u. rw (next-byte x j l, next-byte y j l)))))))

-- ---- as the code has it

pub odd-compared : (x y : ℕ)
    → eqb (bit_and (bit_and y 1085102592571150095 + 9259542123273814144 - bit_and x 1085102592571150095) 9259542123273814144) 9259542123273814144
    ≡ all_to 8 (odd_at_most x y)
unfolding repeated apart
odd-compared x y = compared 8 x y

-- ---- the digits of even place, a digit further on

and-halves : (a b c d : Bool) → a && (b && (c && d)) ≡ b && c && (a && d)
and-halves true b c d = sym (and_assoc b c d)
and-halves false b c d = sym (and-false (b && c))

halves : (n : ℕ) (p : ℕ → Bool) → all_to (2 * n) p ≡ all_to n (λ j. p (2 * j - 1)) && all_to n (λ j. p (2 * j))
unfolding all_to
halves zero p = refl
halves (suc n) p =
    let e : 2 * suc n ≡ suc (suc (2 * n)) = omega arith in
    let d : 2 * suc n - 1 ≡ suc (2 * n) = omega arith in
    rw (d, e, halves n p) (and-halves (p (suc (suc (2 * n)))) (p (suc (2 * n))) (all_to n (λ j. p (2 * j - 1))) (all_to n (λ j. p (2 * j))))

pub each-compared : (x y : ℕ)
    → all_to max_named (λ k. leb (assignment x k) (assignment y k)) ≡ all_to 8 (odd_at_most x y) && all_to 8 (odd_at_most (x / 2 ^ 4) (y / 2 ^ 4))
unfolding max_named
each-compared x y =
    halves 8 (λ k. leb (assignment x k) (assignment y k))
    ∙ ap (λ (b : Bool). all_to 8 (odd_at_most x y) && b) (all_to-same 8 _ _ (λ j l u. rw (even x j l, even y j l)))
  where
    even : (x j : ℕ) → 1 ≤ j → assignment x (2 * j) ≡ assignment (x / 16) (2 * j - 1)
    even x j l =
        let e : 2 * j ≡ suc (2 * j - 1) = omega arith in
        ap (assignment x) e ∙ assigned-next x (2 * j - 1) (omega arith)
