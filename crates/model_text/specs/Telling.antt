-- From a sheet to its text. docs/FORMATS.md, 'Sheets as text'.
use Rattle.std.specs.Prelude.{ℕ, suc, cond, List, [], ◌∷◌, ◌++◌, eqb, ℤ, pos, negsuc}
use Rattle.model_base.specs.Finite.{gather}
use Rattle.model_sheet.specs.Problem.{Problem, domain}
use Rattle.model_sheet.specs.Row.{Row, signed}
use Rattle.model_sheet.specs.Sheet.{Decoded, Valid, Invalid, fault_number, edition_in, decode}
use Rattle.model_sheet.specs.Chain.{rows_in}
use Rattle.model_base.specs.Decimal.{decimal, newline}
use Rattle.model_text.specs.Statements.{slots_word, ban_word, gap_word}

-- " "
unfoldable pub blank : List ℕ
blank = 32 ∷ []

-- ":"
unfoldable pub colon : List ℕ
colon = 58 ∷ []

-- "-"
unfoldable pub dash : List ℕ
dash = 45 ∷ []

-- ---- numbers

-- a blank, and a number
unfoldable pub figure : ℕ → List ℕ
figure k = blank ++ decimal k

-- a blank, an agent, and a value of it
unfoldable pub place : ℕ → ℕ → List ℕ
place i v = figure i ++ (colon ++ decimal v)

-- a blank, and a signed number
unfoldable pub signed_figure : ℤ → List ℕ
signed_figure (pos k) = figure k
signed_figure (negsuc k) = blank ++ (dash ++ decimal (suc k))

-- ---- lines

unfoldable pub slots_line : Problem → List ℕ
slots_line p = slots_word ++ (gather p.count 1 (λ i. figure (domain p i)) ++ newline)

unfoldable pub ban_line : Row → List ℕ
ban_line row = ban_word ++ (place row.lower row.low ++ (place row.higher row.high ++ newline))

unfoldable pub gap_line : Row → List ℕ
gap_line row =
    gap_word ++ (figure row.lower ++ (figure row.higher ++ (signed_figure (signed row.low) ++ (signed_figure (signed row.high) ++ newline))))

unfoldable pub row_line : ℕ → Row → List ℕ
row_line edition row = cond (eqb edition 2) (gap_line row) (ban_line row)

unfoldable pub row_lines : ℕ → List Row → List ℕ
row_lines edition [] = []
row_lines edition (row ∷ rows) = row_line edition row ++ row_lines edition rows

-- "`slots` and the slot counts of the n scanners, then a line for each record on the chain, in its order"
unfoldable pub text_from : ℕ → Problem → List Row → List ℕ
text_from edition p rows = slots_line p ++ row_lines edition rows

-- ---- sheets

-- "at most 67,614 bytes": twelve slot counts, and 4,224 gaps of two signs each
unfoldable pub longest_told : ℕ
longest_told = 67614

-- the bytes of the text, or the number with which the sheet is refused
pub data Told : Type 0 where
  Text : List ℕ → Told
  Refused : ℕ → Told

unfoldable pub told_from : List ℕ → Decoded → Told
told_from s (Valid p) = Text (text_from (edition_in s) p (rows_in s))
told_from s (Invalid f) = Refused (fault_number f)

unfoldable pub text_of : List ℕ → Told
text_of s = told_from s (decode s)
