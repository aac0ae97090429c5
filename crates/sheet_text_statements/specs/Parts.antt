-- What the code's parts make of a word and of a line.
use Rattle.std.specs.Prelude.{ℕ, true, false, List, Option, Some, None, ℤ}
use Rattle.model_text.specs.Words.{is_blank, pieces_of, filled, is_numeral, numeral, before_colon, behind_colon, is_place, is_signed, signed_numeral}
use Rattle.sheet_text_statements.specs.declared.numbers.Place.{Place}

-- ---- a word

unfoldable pub numeral_in : List ℕ → Option ℕ
numeral_in word = elim (is_numeral word) [ true ↦ Some (numeral word) | false ↦ None ]

unfoldable pub place_in : List ℕ → Option Place
place_in word =
    elim (is_place word) [
      | true ↦ Some (record { agent = numeral (before_colon word); value = numeral (behind_colon word) })
      | false ↦ None
    ]

unfoldable pub signed_in : List ℕ → Option ℤ
signed_in word = elim (is_signed word) [ true ↦ Some (signed_numeral word) | false ↦ None ]

-- ---- words

-- of what is left of a line without carriage return and comment
unfoldable pub words_in : List ℕ → List (List ℕ)
words_in s = filled (pieces_of is_blank s)
