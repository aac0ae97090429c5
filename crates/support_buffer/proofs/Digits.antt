-- The fewest digits that hold a number, written out, are its decimal: by induction on how many there are.
use Rattle.std.proofs.Common.{◌≡◌, sym, ap, ◌∙◌, List, [], ◌∷◌, ◌++◌, ℕ, zero, suc, ◌+◌, ◌-◌, ◌*◌, ◌/◌, ◌%◌, ◌^◌, ◌≤◌, ◌<◌, pow-suc, div-lt_iff_lt-mul, le-div_iff_mul-le, mod-eq_of_lt, mod-lt, arith, ltb, leb, lt-ltb, le-ltb, ltb-true, ltb-false, leb-true, leb-false}
use native.Mathlib.Nat.{one-le-pow, pow-le-pow_right}
use native.Mathlib.Numerals.{unary_clauses}
use Rattle.model_base.proofs.Tests.{test}
use Rattle.io.specs.Digits.{hex_digit_ascii, last_digits, IsDigitCount}
use Rattle.model_base.specs.Decimal.{last_decimals, decimal}
use Rattle.model_base.proofs.Decimal.{one-digit, more-digits}

glyph-low : (d : ℕ) → d < 10 → hex_digit_ascii d ≡ 48 + d
glyph-low d h = rw (lt-ltb d 10 h)

spelled : (most k n : ℕ) → k < most → n < 10 ^ suc k → (0 < k → 10 ^ k ≤ n) → last_digits 10 (suc k) n ≡ last_decimals most n
spelled zero k n l u h = absurd (omega arith)
spelled (suc most) zero n l u h =
    let low : n < 10 = u in
    ap (λ (d : ℕ). d ∷ []) (rw (mod-eq_of_lt low) (glyph-low n low)) ∙ sym (one-digit most n low)
spelled (suc most) (suc k) n l u h =
    let high : 10 ^ k * 10 ≤ n = rw pow-suc at (h (omega arith)) in
    let ten : 10 ≤ n = omega (arith, one-le-pow k 10 (omega arith)) in
    let some : 0 < 10 = omega arith in
    let rest : n / 10 < 10 ^ suc k = (div-lt_iff_lt-mul some).1 (rw pow-suc at u) in
    let more : 10 ^ k ≤ n / 10 = (le-div_iff_mul-le some).1 high in
    ap (λ (s : List ℕ). s ++ (hex_digit_ascii (n % 10) ∷ [])) (spelled most k (n / 10) (omega arith) rest (λ z. more))
    ∙ ap (λ (d : ℕ). last_decimals most (n / 10) ++ (d ∷ [])) (glyph-low (n % 10) (mod-lt n (omega arith)))
    ∙ sym (more-digits most n ten)

-- a number with k + 1 digits is above k
digits-few : (k : ℕ) → k < 10 ^ k
digits-few zero = omega arith
digits-few (suc k) = rw pow-suc (omega (arith, digits-few k))

pub fewest-decimal : (k n : ℕ) → IsDigitCount 10 1 n k → last_digits 10 k n ≡ decimal n
unfolding decimal
fewest-decimal zero n f = absurd (omega arith)
fewest-decimal (suc k) n f =
    let high : 0 < k → 10 ^ k ≤ n = λ z. simp unary_clauses at (f.2 (omega arith)) in
    spelled (suc n) k n
    (test (ltb 0 k) (λ z. omega (arith, digits-few k, high (ltb-true 0 k z))) (λ z. omega (arith, ltb-false 0 k z)))
    f.1
    high

-- a number of 64 bits has at most twenty digits
pub digits-fit : (k n : ℕ) → IsDigitCount 10 1 n k → n < 2 ^ 64 → k ≤ 20
digits-fit k n f h =
    test (leb k 20) (λ t. leb-true k 20 t)
    (λ t.
    let more : 20 < k = leb-false k 20 t in
    let some : 0 < 10 = omega arith in
    let least : 20 ≤ k - 1 = omega arith in
    let far : 10 ^ 20 ≤ 10 ^ (k - 1) = pow-le-pow_right some least in
    absurd (omega (arith, f.2 (omega arith))))
