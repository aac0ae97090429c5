-- Words as sets of pairs of values: none, one, both of two, either of two; and a table that gets one more.
-- A constant word is tested at each of its 64 bits, by computation.
use Rattle.std.proofs.Common.{ℕ, suc, pred, ◌+◌, ◌-◌, ◌*◌, ◌/◌, ◌%◌, ◌^◌, ◌≤◌, ◌<◌, ◌≡◌, refl, sym, ◌∙◌, Bool, true, false, cond, ◌&&◌, ◌||◌, arith, eqb, ltb, bit_and, bit_or, ltb-true}
use lib.Pow.{pow-lt}
use lib.Bits.{and_lt, or_lt}
use Rattle.model_base.specs.Finite.{within, all_to}
use Rattle.model_base.specs.Bits.{bit}
use Rattle.model_base.specs.Same.{same_bool}
use Rattle.model_base.proofs.Tests.{both}
use Rattle.model_base.proofs.Search.{all_to-at}
use Rattle.model_base.proofs.Bits.{bit-of-zero, bit-or, bit-and, bit-pow, bit-ext}
use Rattle.model_base.proofs.Same.{same_bool_lem}
use Rattle.model_sheet.specs.Problem.{max_domain, bit_at, with_bits}
use Rattle.model_sheet.proofs.Bits.{Value, same_bit, bits, bits_below}
use Rattle.sheet_records.specs.Parts.{Pairs}

value : (v : ℕ) → 1 ≤ v → v ≤ 8 → Value v
unfolding max_domain
value v l h = record { low = l; high = h }

-- ---- sets

pub none : Pairs 0 (λ v w. false)
none = record { short = omega arith; bits = λ v w _ _ _ _. bit-of-zero (bit_at v w) }

pub either : {x y : ℕ} {f g : ℕ → ℕ → Bool} → Pairs x f → Pairs y g → Pairs (bit_or x y) (λ v w. f v w || g v w)
either {x} {y} p q =
    record {
      short = or_lt 64 x y p.short q.short;
      bits = λ v w a b c d. bit-or x y (bit_at v w) ∙ rw (p.bits v w a b c d, q.bits v w a b c d);
    }

pub common : {x y : ℕ} {f g : ℕ → ℕ → Bool} → Pairs x f → Pairs y g → Pairs (bit_and x y) (λ v w. f v w && g v w)
common {x} {y} p q =
    record {
      short = and_lt 64 x y p.short q.short;
      bits = λ v w a b c d. bit-and x y (bit_at v w) ∙ rw (p.bits v w a b c d, q.bits v w a b c d);
    }

-- the same set by another name
pub renamed : {x : ℕ} {f g : ℕ → ℕ → Bool} → Pairs x f → ((v w : ℕ) → 1 ≤ v → v ≤ 8 → 1 ≤ w → w ≤ 8 → f v w ≡ g v w) → Pairs x g
renamed p same = record { short = p.short; bits = λ v w a b c d. p.bits v w a b c d ∙ same v w a b c d }

pub single : (v w : ℕ) → 1 ≤ v → v ≤ 8 → 1 ≤ w → w ≤ 8 → Pairs (2 ^ bit_at v w) (λ a b. eqb a v && eqb b w)
unfolding bit_at
single v w lv hv lw hw =
    record {
      short = pow-lt {i = bit_at v w} {j = 64} (omega arith);
      bits = λ a b la ha lb hb.
          bit-pow (bit_at v w) (bit_at a b) ∙ same_bit a b v w (value a la ha) (value b lb hb) (value v lv hv) (value w lw hw);
    }

-- ---- constant words

unfoldable tested : ℕ → (ℕ → ℕ → Bool) → Bool
tested x h = ltb x (2 ^ 64) && all_to 8 (λ v. all_to 8 (λ w. same_bool (bit x (bit_at v w)) (h v w)))

pairs : (x : ℕ) (h : ℕ → ℕ → Bool) → tested x h ≡ true → Pairs x h
unfolding tested
pairs x h t =
    let p = both (ltb x (2 ^ 64)) _ t in
    record {
      short = ltb-true _ _ p.0;
      bits = λ v w a b c d. same_bool_lem _ _ (all_to-at 8 _ (all_to-at 8 _ p.1 v a b) w c d);
    }

-- the pairs of gap k - 7: the main diagonal, moved up or down
unfoldable pub diagonal : ℕ → ℕ
diagonal k = cond (ltb k 7) (0x8040201008040201 * 2 ^ (8 * (7 - k)) % 2 ^ 64) (0x8040201008040201 / 2 ^ (8 * (k - 7)))

diagonals : all_to 15 (λ k. tested (diagonal (pred k)) (λ v w. eqb (w + 7) (pred k + v))) ≡ true
unfolding bit bit_at same_bool all_to tested diagonal
diagonals = refl

pub diagonal-pairs : (k : ℕ) → k < 15 → Pairs (diagonal k) (λ v w. eqb (w + 7) (k + v))
diagonal-pairs k h = pairs _ _ (all_to-at 15 (λ k. tested (diagonal (pred k)) (λ v w. eqb (w + 7) (pred k + v))) diagonals (suc k) (omega arith) h)

-- the first d values of the lower agent, and the first e of the higher
unfoldable pub lowers : ℕ → ℕ
lowers d = 0xffffffffffffffff / 2 ^ (64 - 8 * d)

unfoldable pub highers : ℕ → ℕ
highers e = (1 * 2 ^ e % 2 ^ 64 - 1) * 0x0101010101010101

all-lowers : all_to 8 (λ d. tested (lowers d) (λ v w. within d v)) ≡ true
unfolding bit bit_at same_bool within all_to tested lowers
all-lowers = refl

all-highers : all_to 8 (λ e. tested (highers e) (λ v w. within e w)) ≡ true
unfolding bit bit_at same_bool within all_to tested highers
all-highers = refl

lowers-pairs : (d : ℕ) → 1 ≤ d → d ≤ 8 → Pairs (lowers d) (λ v w. within d v)
lowers-pairs d l h = pairs _ _ (all_to-at 8 (λ d. tested (lowers d) (λ v w. within d v)) all-lowers d l h)

highers-pairs : (e : ℕ) → 1 ≤ e → e ≤ 8 → Pairs (highers e) (λ v w. within e w)
highers-pairs e l h = pairs _ _ (all_to-at 8 (λ e. tested (highers e) (λ v w. within e w)) all-highers e l h)

pub owned-pairs : (d e : ℕ) → 1 ≤ d → d ≤ 8 → 1 ≤ e → e ≤ 8 → Pairs (bit_and (lowers d) (highers e)) (λ v w. within d v && within e w)
owned-pairs d e ld hd le he = common (lowers-pairs d ld hd) (highers-pairs e le he)

-- ---- a word of the table with one more set

pub more-pairs : (h : ℕ → ℕ → Bool) (d e x y : ℕ) → d ≤ 8 → e ≤ 8 → x < 2 ^ 64 → Pairs y (λ v w. within d v && within e w && h v w)
    → bit_or x y ≡ with_bits d e h x
unfolding bit_at max_domain
more-pairs h d e x y hd he short p =
    bit-ext 64 (bit_or x y) (with_bits d e h x) (or_lt 64 x y short p.short) (bits_below h d e x hd he short) same
  where
    place : (k : ℕ) → 8 * (k / 8) + k % 8 ≡ k
    place k = omega arith

    here : (v w : ℕ) → 1 ≤ v → v ≤ 8 → 1 ≤ w → w ≤ 8 → bit (bit_or x y) (bit_at v w) ≡ bit (with_bits d e h x) (bit_at v w)
    here v w lv hv lw hw =
        bit-or x y (bit_at v w)
        ∙ rw (p.bits v w lv hv lw hw) (sym (bits h v w (value v lv hv) (value w lw hw) d e x hd he))

    same : (k : ℕ) → k < 64 → bit (bit_or x y) k ≡ bit (with_bits d e h x) k
    same k l = rw (place k) at (here (suc (k / 8)) (suc (k % 8)) (omega arith) (omega arith) (omega arith) (omega arith))
