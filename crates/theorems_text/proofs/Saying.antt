-- A line as it is told says its statement: slot counts, a ban, a gap.
-- Its words are those that were told, and each is as its place wants it.
use Rattle.std.proofs.Common.{ℕ, ◌≤◌, ◌≡◌, refl, true, List, [], ◌∷◌, ◌++◌, map, arith, leb, ℤ, length, leb-true}
use Rattle.model_base.specs.Finite.{every}
use Rattle.model_base.specs.Lists.{All}
use Rattle.model_base.proofs.Tests.{to_both}
use Rattle.model_base.proofs.Lists.{All-map, every-all}
use Rattle.model_base.specs.Same.{same_numbers}
use Rattle.model_base.specs.Decimal.{decimal}
use Rattle.model_text.specs.Words.{is_numeral, numeral}
use Rattle.model_text.specs.Statements.{Slots, Ban, Gap, Says, slots_word, ban_word, gap_word, argument, slots_said, ban_of, ban_said, gap_of, gap_said, words_say, line_says}
use Rattle.model_text.specs.Drafts.{is_gap}
use Rattle.theorems_text.proofs.Decimals.{decimal-numeral, decimal-value}
use Rattle.theorems_text.proofs.Spacing.{spaced, Word, words_back}
use Rattle.theorems_text.proofs.Figures.{decimal-word, place_word, place-word, before-place, behind-place, place-good, signed_word, signed_word_lem, signed-good, signed-value}

letters : (w : List ℕ) → 1 ≤ length w → every (leb 36) w ≡ true → Word w
letters w l h = record { some = l; high = All-map (λ b. leb 36 b ≡ true) (λ b. 36 ≤ b) (leb-true 36) w (every-all (leb 36) w h) }

-- ---- slot counts

pub slots-word : Word slots_word
unfolding slots_word every
slots-word = letters slots_word (omega arith) refl

pub decimal-words : (ds : List ℕ) → All Word (map decimal ds)
decimal-words [] = tt
decimal-words (k ∷ ds) = (decimal-word k, decimal-words ds)

all-numerals : (ds : List ℕ) → All (λ k. k ≤ 255) ds → every is_numeral (map decimal ds) ≡ true
unfolding every
all-numerals [] h = refl
all-numerals (k ∷ ds) h = to_both _ _ (decimal-numeral k h.0) (all-numerals ds h.1)

all-values : (ds : List ℕ) → map numeral (map decimal ds) ≡ ds
all-values [] = refl
all-values (k ∷ ds) = rw (decimal-value k, all-values ds)

pub slots-told : (ds : List ℕ) → All (λ k. k ≤ 255) ds → line_says (slots_word ++ spaced (map decimal ds)) ≡ Says (Slots ds)
unfolding line_says words_say same_numbers slots_word slots_said
slots-told ds h =
    rw (words_back slots_word (map decimal ds) slots-word (decimal-words ds), all-numerals ds h, slots_said, all-values ds)

-- ---- bans

pub ban-word : Word ban_word
unfolding ban_word every
ban-word = letters ban_word (omega arith) refl

unfoldable pub ban_words : ℕ → ℕ → ℕ → ℕ → List (List ℕ)
ban_words a s b t = place_word a s ∷ place_word b t ∷ []

pub ban-words : (a s b t : ℕ) → All Word (ban_words a s b t)
unfolding ban_words
ban-words a s b t = (place-word a s, (place-word b t, tt))

pub ban-told : (a s b t : ℕ) → a ≤ 255 → s ≤ 255 → b ≤ 255 → t ≤ 255 → line_says (ban_word ++ spaced (ban_words a s b t)) ≡ Says (Ban a s b t)
unfolding line_says words_say same_numbers slots_word ban_word ban_said ban_of argument ban_words
ban-told a s b t ha hs hb ht =
    rw (words_back ban_word (ban_words a s b t) ban-word (ban-words a s b t))
    (rw (place-good a s ha hs, place-good b t hb ht, ban_said, before-place a s, behind-place a s, before-place b t, behind-place b t)
    (rw (decimal-value a, decimal-value s, decimal-value b, decimal-value t)))

-- ---- gaps

pub gap_word_lem : Word gap_word
unfolding gap_word every
gap_word_lem = letters gap_word (omega arith) refl

unfoldable pub gap_words : ℕ → ℕ → ℤ → ℤ → List (List ℕ)
gap_words a b least greatest = decimal a ∷ decimal b ∷ signed_word least ∷ signed_word greatest ∷ []

pub gap-words : (a b : ℕ) (least greatest : ℤ) → All Word (gap_words a b least greatest)
unfolding gap_words
gap-words a b least greatest = (decimal-word a, (decimal-word b, (signed_word_lem least, (signed_word_lem greatest, tt))))

pub gap-told : (a b : ℕ) (least greatest : ℤ) → a ≤ 255 → b ≤ 255 → is_gap least ≡ true → is_gap greatest ≡ true
    → line_says (gap_word ++ spaced (gap_words a b least greatest)) ≡ Says (Gap a b least greatest)
unfolding line_says words_say same_numbers slots_word ban_word gap_word gap_said gap_of argument gap_words
gap-told a b least greatest ha hb hl hg =
    rw (words_back gap_word (gap_words a b least greatest) gap_word_lem (gap-words a b least greatest))
    (rw (decimal-numeral a ha, decimal-numeral b hb, signed-good least hl, signed-good greatest hg, gap_said)
    (rw (decimal-value a, decimal-value b, signed-value least, signed-value greatest)))
