-- A line as a statement. docs/FORMATS.md, 'Sheets as text'.
use Rattle.std.specs.Prelude.{ℕ, true, false, ◌&&◌, List, [], ◌∷◌, map, length, get_or, eqb, ℤ}
use Rattle.model_base.specs.Finite.{every}
use Rattle.model_base.specs.Same.{same_numbers}
use Rattle.model_text.specs.Words.{words_of, is_numeral, numeral, before_colon, behind_colon, is_place, is_signed, signed_numeral}

pub data Statement : Type 0 where
  Slots : List ℕ → Statement  -- "`slots D1 D2 ..`"
  Ban : ℕ → ℕ → ℕ → ℕ → Statement  -- "`ban A:S B:T`": A, S, B, T
  Gap : ℕ → ℕ → ℤ → ℤ → Statement  -- "`gap A B LEAST GREATEST`"

-- what a line says
pub data Said : Type 0 where
  Empty : Said  -- "A line without words says nothing."
  Says : Statement → Said
  Unclear : Said  -- "Any other line that has words is not a statement."

-- "slots"
unfoldable pub slots_word : List ℕ
slots_word = 115 ∷ 108 ∷ 111 ∷ 116 ∷ 115 ∷ []

-- "ban"
unfoldable pub ban_word : List ℕ
ban_word = 98 ∷ 97 ∷ 110 ∷ []

-- "gap"
unfoldable pub gap_word : List ℕ
gap_word = 103 ∷ 97 ∷ 112 ∷ []

-- what stands behind the first word, from 0 on
unfoldable pub argument : List (List ℕ) → ℕ → List ℕ
argument args k = get_or args k []

-- "any number of numbers"
unfoldable pub slots_said : List (List ℕ) → Said
slots_said args = elim (every is_numeral args) [ true ↦ Says (Slots (map numeral args)) | false ↦ Unclear ]

-- of two places
unfoldable pub ban_of : List ℕ → List ℕ → Statement
ban_of x y = Ban (numeral (before_colon x)) (numeral (behind_colon x)) (numeral (before_colon y)) (numeral (behind_colon y))

-- "exactly two places"
unfoldable pub ban_said : List (List ℕ) → Said
ban_said args =
    elim (eqb (length args) 2 && is_place (argument args 0) && is_place (argument args 1)) [
      | true ↦ Says (ban_of (argument args 0) (argument args 1))
      | false ↦ Unclear
    ]

unfoldable pub gap_of : List ℕ → List ℕ → List ℕ → List ℕ → Statement
gap_of a b least greatest = Gap (numeral a) (numeral b) (signed_numeral least) (signed_numeral greatest)

-- "exactly two numbers and two signed numbers"
unfoldable pub gap_said : List (List ℕ) → Said
gap_said args =
    elim (eqb (length args) 4 && is_numeral (argument args 0) && is_numeral (argument args 1) && is_signed (argument args 2) && is_signed (argument args 3)) [
      | true ↦ Says (gap_of (argument args 0) (argument args 1) (argument args 2) (argument args 3))
      | false ↦ Unclear
    ]

-- by its words
unfoldable pub words_say : List (List ℕ) → Said
words_say [] = Empty
words_say (word ∷ args) =
    elim (same_numbers word slots_word) [
      | true ↦ slots_said args
      | false ↦ elim (same_numbers word ban_word) [
        | true ↦ ban_said args
        | false ↦ elim (same_numbers word gap_word) [ true ↦ gap_said args | false ↦ Unclear ]
      ]
    ]

unfoldable pub line_says : List ℕ → Said
line_says line = words_say (words_of line)
