-- A number, a place and a signed number, as they are told, are words and are read back.
-- No digit is a colon or a minus, so what stands on both sides of the colon, or behind the minus, is the number in decimal.
use Rattle.std.proofs.Common.{ℕ, suc, ◌≤◌, ◌≡◌, refl, ap, ◌∙◌, Bool, true, false, List, [], ◌∷◌, ◌++◌, arith, length, take, drop, length-append, leb, ℤ, pos, negsuc, neg_ℤ, ne_eqb, leb-true}
use lib.Seq.{take-append_seam}
use Rattle.model_base.specs.Lists.{All}
use Rattle.model_base.proofs.Tests.{both, to_both}
use Rattle.model_base.proofs.Lists.{All-append, All-map, every-all}
use Rattle.model_sheet.specs.Row.{between}
use Rattle.model_base.specs.Numerals.{is_digit}
use Rattle.model_base.specs.Decimal.{decimal}
use Rattle.model_text.specs.Words.{is_colon, is_minus, first_at, before_colon, behind_colon, is_place, has_minus, without_minus, is_signed, signed_numeral}
use Rattle.model_text.specs.Drafts.{is_gap}
use Rattle.theorems_text.proofs.Decimals.{decimal-says, decimal-numeral, decimal-value}
use Rattle.theorems_text.proofs.Spacing.{Word, all-anywhere}

-- ---- numbers

digits_between : (n : ℕ) → All (λ b. (48 ≤ b) × (b ≤ 57)) (decimal n)
unfolding is_digit
digits_between n =
    All-map (λ b. is_digit b ≡ true) (λ b. (48 ≤ b) × (b ≤ 57))
    (λ b h. let x = both (leb 48 b) _ h in (leb-true 48 b x.0, leb-true b 57 x.1))
    (decimal n) (every-all is_digit (decimal n) (decimal-says n).digits)

pub decimal-word : (n : ℕ) → Word (decimal n)
decimal-word n =
    record {
      some = (decimal-says n).some;
      high = All-map (λ b. (48 ≤ b) × (b ≤ 57)) (λ b. 36 ≤ b) (λ b h. omega arith) (decimal n) (digits_between n);
    }

-- ---- places

unfoldable pub place_word : ℕ → ℕ → List ℕ
place_word i v = decimal i ++ 58 ∷ decimal v

pub place-word : (i v : ℕ) → Word (place_word i v)
unfolding place_word
place-word i v =
    record {
      some = rw length-append (omega arith);
      high = All-append (λ b. 36 ≤ b) (decimal i) (58 ∷ decimal v) (decimal-word i).high (omega arith, (decimal-word v).high);
    }

first-there : (p : ℕ → Bool) (l : List ℕ) (c : ℕ) (r : List ℕ) → All (λ b. p b ≡ false) l → p c ≡ true → first_at p (l ++ c ∷ r) ≡ length l
unfolding first_at
first-there p [] c r h e = rw (e, first_at)
first-there p (b ∷ l) c r h e = rw (h.0, first_at) (ap suc (first-there p l c r h.1 e))

no-colon : (n : ℕ) → All (λ b. is_colon b ≡ false) (decimal n)
unfolding is_colon
no-colon n = All-map (λ b. (48 ≤ b) × (b ≤ 57)) (λ b. is_colon b ≡ false) (λ b h. ne_eqb b 58 (λ e. omega arith)) (decimal n) (digits_between n)

-- where its colon stands
colon-there : (i v : ℕ) → first_at is_colon (place_word i v) ≡ length (decimal i)
unfolding place_word is_colon
colon-there i v = first-there is_colon (decimal i) 58 (decimal v) (no-colon i) refl

pub before-place : (i v : ℕ) → before_colon (place_word i v) ≡ decimal i
unfolding before_colon place_word
before-place i v = ap (λ (k : ℕ). take k (place_word i v)) (colon-there i v) ∙ take-append_seam (decimal i) (58 ∷ decimal v)

behind-seam : (l : List ℕ) (c : ℕ) (r : List ℕ) → drop (suc (length l)) (l ++ c ∷ r) ≡ r
behind-seam [] c r = refl
behind-seam (b ∷ l) c r = behind-seam l c r

pub behind-place : (i v : ℕ) → behind_colon (place_word i v) ≡ decimal v
unfolding behind_colon place_word
behind-place i v = ap (λ (k : ℕ). drop (suc k) (place_word i v)) (colon-there i v) ∙ behind-seam (decimal i) 58 (decimal v)

pub place-good : (i v : ℕ) → i ≤ 255 → v ≤ 255 → is_place (place_word i v) ≡ true
unfolding is_place
place-good i v h k = rw (before-place i v, behind-place i v) (to_both _ _ (decimal-numeral i h) (decimal-numeral v k))

-- ---- signed numbers

unfoldable pub signed_word : ℤ → List ℕ
signed_word (pos k) = decimal k
signed_word (negsuc k) = 45 ∷ decimal (suc k)

pub signed_word_lem : (z : ℤ) → Word (signed_word z)
unfolding signed_word
signed_word_lem (pos k) = decimal-word k
signed_word_lem (negsuc k) = record { some = omega arith; high = (omega arith, (decimal-word (suc k)).high) }

no_minus : (n : ℕ) → has_minus (decimal n) ≡ false
unfolding has_minus is_minus
no_minus n =
    all-anywhere (λ b. is_minus b ≡ false) (decimal n) 0 0
    (All-map (λ b. (48 ≤ b) × (b ≤ 57)) (λ b. is_minus b ≡ false) (λ b h. ne_eqb b 45 (λ e. omega arith)) (decimal n) (digits_between n)) refl

pub signed-good : (z : ℤ) → is_gap z ≡ true → is_signed (signed_word z) ≡ true
unfolding is_gap between is_signed without_minus signed_word has_minus is_minus
signed-good (pos k) h = rw (no_minus k) (decimal-numeral k (omega (arith, leb-true k 7 h)))
signed-good (negsuc k) h = decimal-numeral (suc k) (omega (arith, leb-true k 6 (both (leb k 6) true h).0))

pub signed-value : (z : ℤ) → signed_numeral (signed_word z) ≡ z
unfolding signed_numeral without_minus signed_word has_minus is_minus
signed-value (pos k) = rw (no_minus k) (ap pos (decimal-value k))
signed-value (negsuc k) = ap (λ (n : ℕ). neg_ℤ (pos n)) (decimal-value (suc k))
