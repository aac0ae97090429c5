-- Ban words laid over each other: what stands for no owned values is empty in all of them exactly if it is empty in what comes of it.
use Rattle.std.proofs.Common.{ℕ, zero, suc, pred, ◌+◌, ◌*◌, ◌-◌, ◌/◌, ◌%◌, ◌^◌, ◌≤◌, ◌<◌, ◌≡◌, refl, sym, ◌∙◌, Bool, true, false, ◌&&◌, ◌||◌, lt_of_le_of_lt, mul-le-mul_left, zero-mul, mod-eq_of_lt, arith, bit_and, bit_or, pow_pos, shr_lt, eqb, eq-eqb, eqb-true}
use mathlib.Core.Bool.{and_comm}
use lib.Bits.{and_zero_r, and_le_l, and_le_r, and_high, or_lt, or_add_and}
use Rattle.model_base.specs.Bits.{bit}
use Rattle.model_base.specs.Finite.{all_to}
use Rattle.model_base.proofs.Bits.{bit-and, bit-or, bit-ext}
use Rattle.model_base.proofs.Tests.{both}
use Rattle.model_base.proofs.Search.{all_to-at}
use Rattle.model_base.proofs.Peeling.{same_test}
use Rattle.model_sheet.specs.Problem.{word_owned}
use Rattle.abt_shape.specs.Parts.{Columns, Beyond}
use Rattle.abt_shape.proofs.BanWords.{owned-whole, all-rows}

-- ---- two laid over each other

or-clear : (x y : ℕ) → eqb (bit_or x y) 0 ≡ eqb x 0 && eqb y 0
or-clear x y =
    same_test _ _
    (λ t.
    let e = eqb-true (bit_or x y) 0 t in
    let s = or_add_and x y in
    rw (eq-eqb x 0 (omega (arith, e, s, and_le_r x y)), eq-eqb y 0 (omega (arith, e, s, and_le_l x y))))
    (λ t. let b = both (eqb x 0) (eqb y 0) t in eq-eqb (bit_or x y) 0 (omega (arith, or_add_and x y, eqb-true x 0 b.0, eqb-true y 0 b.1)))

spread : (w a b : ℕ) → w < 2 ^ 64 → bit_and w (bit_or a b) ≡ bit_or (bit_and w a) (bit_and w b)
spread w a b h =
    bit-ext 64 _ _ (lt_of_le_of_lt (and_le_l w (bit_or a b)) h)
    (or_lt 64 (bit_and w a) (bit_and w b) (lt_of_le_of_lt (and_le_l w a) h) (lt_of_le_of_lt (and_le_l w b) h))
    (λ k l. rw (bit-and w (bit_or a b) k, bit-or a b k, bit-or (bit_and w a) (bit_and w b) k, bit-and w a k, bit-and w b k) (each (bit w k) (bit a k) (bit b k)))
  where
    each : (x y z : Bool) → x && (y || z) ≡ (x && y) || (x && z)
    each true y z = refl
    each false y z = refl

-- ---- one word

-- what stands for no owned values of either agent
pub unowned-clear : (d e rows columns word : ℕ) → columns < 2 ^ 64 → word < 2 ^ 64 → Beyond d rows → Columns e columns
    → word_owned d e word ≡ eqb (bit_and word (bit_or rows (2 ^ 64 - 1 - columns))) 0
unowned-clear d e rows columns word h l b c =
    owned-whole d e columns word h l c
    ∙ and_comm (eqb (bit_and word (2 ^ 64 - 1 - columns)) 0) (eqb (word / 2 ^ (8 * d)) 0)
    ∙ sym (rw (spread word rows (2 ^ 64 - 1 - columns) l, or-clear (bit_and word rows) (bit_and word (2 ^ 64 - 1 - columns)), b word l))

-- one word more
pub overlaid : (over x : ℕ) (m : ℕ) (p : ℕ → Bool) → 0 < m → p m ≡ eqb x 0 → eqb over 0 && all_to m p ≡ eqb (bit_or over x) 0 && all_to (m - 1) p
unfolding all_to
overlaid over x zero p l e = absurd (omega arith)
overlaid over x (suc m) p l e =
    let one : suc m - 1 ≡ m = omega arith in rw (one, e, or-clear over x) (each (eqb over 0) (eqb x 0) (all_to m p))
  where
    each : (a b c : Bool) → a && (b && c) ≡ (a && b) && c
    each true b c = refl
    each false b c = refl

-- ---- the bytes behind a domain

pub none-beyond : (d : ℕ) → 8 ≤ d → Beyond d 0
none-beyond d h word l = rw (and_zero_r word, all-rows d word l h)

shifted : all_to 8 (λ d. eqb (18446744073709551615 * 2 ^ (8 * pred d) % 2 ^ 64) (2 ^ (64 - 8 * pred d + 8 * pred d) - 2 ^ (8 * pred d))) ≡ true
unfolding all_to
shifted = refl

raised-clear : (q k : ℕ) → eqb (q * 2 ^ k) 0 ≡ eqb q 0
raised-clear q k =
    same_test _ _
    (λ t. eq-eqb q 0 (omega (arith, eqb-true (q * 2 ^ k) 0 t, mul-le-mul_left q (pow_pos k))))
    (λ t. eq-eqb (q * 2 ^ k) 0 (rw (eqb-true q 0 t, zero-mul)))

pub bytes-beyond : (d : ℕ) → d < 8 → Beyond d (18446744073709551615 * 2 ^ (8 * d) % 2 ^ 64)
bytes-beyond d h word l =
    let few : 64 - 8 * d + 8 * d ≡ 64 = omega arith in
    let is : 18446744073709551615 * 2 ^ (8 * d) % 2 ^ 64 ≡ 2 ^ (64 - 8 * d + 8 * d) - 2 ^ (8 * d) =
    eqb-true _ _
    (all_to-at 8 (λ d. eqb (18446744073709551615 * 2 ^ (8 * pred d) % 2 ^ 64) (2 ^ (64 - 8 * pred d + 8 * pred d) - 2 ^ (8 * pred d))) shifted (suc d) (omega arith) h) in
    let small : word / 2 ^ (8 * d) < 2 ^ (64 - 8 * d) = shr_lt (64 - 8 * d) (8 * d) (rw few l) in
    rw (is, and_high word (64 - 8 * d) (8 * d), mod-eq_of_lt small) (raised-clear (word / 2 ^ (8 * d)) (8 * d))
