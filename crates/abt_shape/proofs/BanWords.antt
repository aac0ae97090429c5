-- A ban word between owned values, tested whole.
-- Of each byte only the bits of the higher agent's values are set, and of the bytes only those of the lower agent's.
use Rattle.std.proofs.Common.{ℕ, suc, pred, ◌+◌, ◌*◌, ◌-◌, ◌/◌, ◌%◌, ◌^◌, ◌≤◌, ◌<◌, ◌≡◌, refl, ap, ◌∙◌, Bool, true, false, not, ◌&&◌, ◌||◌, one-mul, lt_of_lt_of_le, arith, bit_and, pow_pos, pow_mono, shl_exact, eqb, leb, eq-eqb, lt-ltb, le-leb, leb-true, leb-false}
use mathlib.Core.Bool.{beq, or-and_distrib_left, and_comm}
use native.Mathlib.Nat.{div-eq_of_lt}
use borrow.Author.Tests.{lt-leb}
use Rattle.model_base.specs.Finite.{within, all_to}
use Rattle.model_base.specs.Bits.{bit}
use Rattle.model_base.proofs.Tests.{test, to-within}
use Rattle.model_base.proofs.Search.{all_to-at, to-all_to}
use Rattle.model_base.proofs.Peeling.{same_test, all_to-same, all_to-and, below-test}
use Rattle.model_sheet.specs.Problem.{max_domain, bit_at, word_owned}
use Rattle.abt_packed.proofs.Bitwise.{bit-ones, only-test}
use Rattle.abt_shape.specs.Parts.{Columns}
use Rattle.abt_shape.proofs.Ranges.{within-at}

-- ---- so many columns

-- the number that has the lowest bit of each byte
abbrev lows : ℕ
lows = 72340172838076673

narrow-table : all_to 8 (λ e. all_to 8 (λ v. all_to 8 (λ w. beq (bit (lows * (2 ^ pred e - 1)) (8 * pred v + pred w)) (within (pred e) w)))) ≡ true
unfolding all_to bit within
narrow-table = refl

narrow : (e : ℕ) → e < 8 → Columns e (lows * (2 ^ e - 1))
unfolding max_domain bit_at
narrow e h v w a b c d =
    same (bit (lows * (2 ^ e - 1)) (8 * pred v + pred w)) (within e w)
    (all_to-at 8 (λ w. beq (bit (lows * (2 ^ e - 1)) (8 * pred v + pred w)) (within e w))
    (all_to-at 8 (λ v. all_to 8 (λ w. beq (bit (lows * (2 ^ e - 1)) (8 * pred v + pred w)) (within e w)))
    (all_to-at 8 (λ e. all_to 8 (λ v. all_to 8 (λ w. beq (bit (lows * (2 ^ pred e - 1)) (8 * pred v + pred w)) (within (pred e) w)))) narrow-table (suc e) (omega arith) h)
    v a b) w c d)
  where
    same : (x y : Bool) → beq x y ≡ true → x ≡ y
    same true true t = refl
    same true false t = cc
    same false true t = cc
    same false false t = refl

-- as the code has it
pub narrowed : (e : ℕ) → e < 8
    → let r = 1 * 2 ^ e % 2 ^ 64 in (1 ≤ r) × (lows * (r - 1) < 2 ^ 64) × Columns e (lows * (r - 1))
narrowed e h =
    let few : 2 ^ e ≤ 2 ^ 7 = pow_mono {i = e} {j = 7} (omega arith) in
    rw (shl_exact {a = 1} 1 e 64 (omega arith) (omega arith), one-mul) (pow_pos e, omega arith, narrow e h)

pub wide : (e : ℕ) → 8 ≤ e → Columns e 18446744073709551615
unfolding max_domain bit_at
wide e h v w a b c d = rw (to-within e w c (omega arith)) (bit-ones 64 (8 * pred v + pred w) (omega arith))

-- ---- the bits of a word, byte by byte and one by one

flat : (T : ℕ → Bool) → all_to 8 (λ v. all_to 8 (λ w. T (8 * pred v + pred w))) ≡ all_to 64 (λ k. T (pred k))
flat T =
    same_test _ _
    (λ t. to-all_to 64 _ (λ k a b.
    let e : pred k ≡ 8 * (pred k / 8) + pred k % 8 = omega arith in
    ap T e ∙ one t (pred k / 8) (pred k % 8) (omega arith) (omega arith)))
    (λ t. to-all_to 8 _ (λ v a b. to-all_to 8 _ (λ w c d.
    all_to-at 64 (λ k. T (pred k)) t (suc (8 * pred v + pred w)) (omega arith) (omega arith))))
  where
    one : all_to 8 (λ v. all_to 8 (λ w. T (8 * pred v + pred w))) ≡ true → (q r : ℕ) → q < 8 → r < 8 → T (8 * q + r) ≡ true
    one t q r h l =
        all_to-at 8 (λ w. T (8 * q + pred w)) (all_to-at 8 (λ v. all_to 8 (λ w. T (8 * pred v + pred w))) t (suc q) (omega arith) h) (suc r) (omega arith) l

pub owned-whole : (d e columns word : ℕ) → columns < 2 ^ 64 → word < 2 ^ 64 → Columns e columns
    → word_owned d e word ≡ eqb (bit_and word (2 ^ 64 - 1 - columns)) 0 && eqb (word / 2 ^ (8 * d)) 0
unfolding word_owned max_domain bit_at
owned-whole d e columns word h l c =
    rw (lt-ltb word (2 ^ 64) l)
    (all_to-same 8 _ _ (λ v a b. all_to-same 8 _ _ (each v a b))
    ∙ flat (λ i. (not (bit word i) || bit columns i) && (not (bit word i) || leb (suc i) (8 * d)))
    ∙ all_to-and 64 (λ k. not (bit word (pred k)) || bit columns (pred k)) (λ k. not (bit word (pred k)) || leb (suc (pred k)) (8 * d))
    ∙ rw (only-test 64 word columns l h, ← below-test 64 word (8 * d) l)
    (ap (λ (b : Bool). all_to 64 (λ k. not (bit word (pred k)) || bit columns (pred k)) && b)
    (all_to-same 64 _ _ (λ k a b. let e : suc (pred k) ≡ k = omega arith in rw e))))
  where
    row : (v w : ℕ) → 1 ≤ v → 1 ≤ w → w ≤ 8 → within d v ≡ leb (suc (8 * pred v + pred w)) (8 * d)
    row v w a b f =
        within-at d v a
        ∙ test (leb v d)
        (λ t. rw (t, le-leb (suc (8 * pred v + pred w)) (8 * d) (omega (arith, leb-true v d t))))
        (λ t. rw (t, lt-leb (suc (8 * pred v + pred w)) (8 * d) (omega (arith, leb-false v d t))))

    each : (v : ℕ) → 1 ≤ v → v ≤ 8 → (w : ℕ) → 1 ≤ w → w ≤ 8
        → not (bit word (8 * pred v + pred w)) || (within d v && within e w)
        ≡ (not (bit word (8 * pred v + pred w)) || bit columns (8 * pred v + pred w)) && (not (bit word (8 * pred v + pred w)) || leb (suc (8 * pred v + pred w)) (8 * d))
    each v a b w f g =
        rw (← c v w a b f g, row v w a f g, and_comm (leb (suc (8 * pred v + pred w)) (8 * d)) (bit columns (8 * pred v + pred w)))
        (or-and_distrib_left (not (bit word (8 * pred v + pred w))) (bit columns (8 * pred v + pred w)) (leb (suc (8 * pred v + pred w)) (8 * d)))

-- a lower agent that owns all values bans in all bytes
pub all-rows : (d word : ℕ) → word < 2 ^ 64 → 8 ≤ d → eqb (word / 2 ^ (8 * d)) 0 ≡ true
all-rows d word h l = eq-eqb (word / 2 ^ (8 * d)) 0 (div-eq_of_lt (lt_of_lt_of_le h (pow_mono {i = 64} {j = 8 * d} (omega arith))))
