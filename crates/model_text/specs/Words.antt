-- A text as lines, a line as words, a word as numbers. docs/FORMATS.md, 'Sheets as text'.
use Rattle.std.specs.Prelude.{ℕ, suc, pred, Bool, true, false, cond, ◌&&◌, ◌||◌, List, [], ◌∷◌, length, get_or, take, drop, eqb, ltb, leb, ℤ, pos, neg_ℤ}
use Rattle.model_base.specs.Numerals.{value_from, top, is_number}

-- ---- bytes

unfoldable pub is_newline : ℕ → Bool
is_newline b = eqb b 10

unfoldable pub is_return : ℕ → Bool
is_return b = eqb b 13

-- "Blanks and tabs separate words."
unfoldable pub is_blank : ℕ → Bool
is_blank b = eqb b 32 || eqb b 9

unfoldable pub is_hash : ℕ → Bool
is_hash b = eqb b 35

unfoldable pub is_colon : ℕ → Bool
is_colon b = eqb b 58

unfoldable pub is_minus : ℕ → Bool
is_minus b = eqb b 45

-- where the first byte that passes stands; the length where none does
unfoldable pub first_at : (ℕ → Bool) → List ℕ → ℕ
first_at p [] = 0
first_at p (b ∷ bs) = elim (p b) [ true ↦ 0 | false ↦ suc (first_at p bs) ]

-- how many bytes pass
unfoldable pub count_of : (ℕ → Bool) → List ℕ → ℕ
count_of p [] = 0
count_of p (b ∷ bs) = elim (p b) [ true ↦ suc (count_of p bs) | false ↦ count_of p bs ]

-- ---- pieces

-- the pieces with one byte more in front of the first
unfoldable pub on_first : ℕ → List (List ℕ) → List (List ℕ)
on_first b [] = (b ∷ []) ∷ []
on_first b (piece ∷ pieces) = (b ∷ piece) ∷ pieces

-- what stands before each byte that ends a piece, and what stands behind the last such byte, if anything does
unfoldable pub pieces_of : (ℕ → Bool) → List ℕ → List (List ℕ)
pieces_of ends [] = []
pieces_of ends (b ∷ bs) = elim (ends b) [ true ↦ [] ∷ pieces_of ends bs | false ↦ on_first b (pieces_of ends bs) ]

-- those that are not empty
unfoldable pub filled : List (List ℕ) → List (List ℕ)
filled [] = []
filled (piece ∷ pieces) = elim (ltb 0 (length piece)) [ true ↦ piece ∷ filled pieces | false ↦ filled pieces ]

-- ---- lines. "A text has as many lines as it has newlines, and one more if bytes follow the last newline."

unfoldable pub lines_of : List ℕ → List (List ℕ)
lines_of = pieces_of is_newline

-- those that a newline ends
unfoldable pub whole_lines : List ℕ → List (List ℕ)
whole_lines bytes = take (count_of is_newline bytes) (lines_of bytes)

-- "One carriage return at the end of a line is dropped"
unfoldable pub without_return : List ℕ → List ℕ
without_return line = cond (is_return (get_or line (pred (length line)) 0)) (take (pred (length line)) line) line

-- "then everything from the first `#` on"
unfoldable pub without_comment : List ℕ → List ℕ
without_comment line = take (first_at is_hash line) line

unfoldable pub words_of : List ℕ → List (List ℕ)
words_of line = filled (pieces_of is_blank (without_comment (without_return line)))

-- ---- words

-- "A number is digits, leading zeros allowed, and at most 2^64 - 1."
unfoldable pub is_numeral : List ℕ → Bool
is_numeral word = is_number word && leb (value_from 0 word) top

unfoldable pub numeral : List ℕ → ℕ
numeral word = value_from 0 word

-- "two numbers with a colon between them": what stands on both sides of the first colon. With no colon in the word nothing stands behind it, and
-- nothing is no number.
unfoldable pub before_colon : List ℕ → List ℕ
before_colon word = take (first_at is_colon word) word

unfoldable pub behind_colon : List ℕ → List ℕ
behind_colon word = drop (suc (first_at is_colon word)) word

unfoldable pub is_place : List ℕ → Bool
is_place word = is_numeral (before_colon word) && is_numeral (behind_colon word)

-- "a number with or without one `-` before it"
unfoldable pub has_minus : List ℕ → Bool
has_minus word = is_minus (get_or word 0 0)

unfoldable pub without_minus : List ℕ → List ℕ
without_minus word = cond (has_minus word) (drop 1 word) word

unfoldable pub is_signed : List ℕ → Bool
is_signed word = is_numeral (without_minus word)

-- "`-0` is 0"
unfoldable pub signed_numeral : List ℕ → ℤ
signed_numeral word = cond (has_minus word) (neg_ℤ (pos (numeral (without_minus word)))) (pos (numeral (without_minus word)))
