-- The claims about sheets as text: what is written is accepted, a text is its sheet again, and the table holds what the lines say.
use Rattle.std.specs.Prelude.{ℕ, suc, ◌-◌, ◌≤◌, ◌≡◌, Bool, false, ◌&&◌, ◌||◌, List, [], ◌∷◌, ◌++◌, length, take, replicate, eqb, ltb}
use Rattle.model_base.specs.Finite.{any}
use Rattle.model_sheet.specs.Problem.{Problem, max_agents, owns, banned}
use Rattle.model_sheet.specs.Row.{between, gap}
use Rattle.model_sheet.specs.Sheet.{Valid, longest_sheet, decode}
use Rattle.model_text.specs.Words.{lines_of}
use Rattle.model_text.specs.Statements.{Statement, Slots, Ban, Gap, Said, Empty, Says, Unclear, line_says}
use Rattle.model_text.specs.Reading.{longest_text, Made, sheet_of}
use Rattle.model_text.specs.Telling.{longest_told, Text, text_of}

-- ---- "The start accepts every sheet that a text gives."

pub record Accepted (s : List ℕ) : Type 0 where
  pub problem : Problem
  pub valid : decode s ≡ Valid problem
  pub short : length s ≤ longest_sheet

abbrev pub SheetsAccepted : Type 0
SheetsAccepted = (text s : List ℕ) → sheet_of text ≡ Made s → Accepted s

-- ---- "The text of a sheet, read again, gives a sheet with the same problem and the same text."

-- t is the text of s, and `sheet` what it gives
pub record Again (s t : List ℕ) : Type 0 where
  pub sheet : List ℕ
  pub made : sheet_of t ≡ Made sheet
  pub problem : Problem
  pub before : decode s ≡ Valid problem
  pub after : decode sheet ≡ Valid problem
  pub same : text_of sheet ≡ Text t

abbrev pub TextsReadAgain : Type 0
TextsReadAgain = (s t : List ℕ) → text_of s ≡ Text t → Again s t

-- "at most 67,614 bytes"
abbrev pub TextsShort : Type 0
TextsShort = (s t : List ℕ) → text_of s ≡ Text t → length t ≤ longest_told

-- ---- "What a `ban` or `gap` line says is what the table holds, and the table holds nothing else"

-- the statement in front of others, where there is one
unfoldable pub in_front : Said → List Statement → List Statement
in_front Empty statements = statements
in_front (Says statement) statements = statement ∷ statements
in_front Unclear statements = statements

unfoldable pub statements_in : List (List ℕ) → List Statement
statements_in [] = []
statements_in (line ∷ lines) = in_front (line_says line) (statements_in lines)

unfoldable pub statements_of : List ℕ → List Statement
statements_of text = statements_in (lines_of text)

-- agent a at value s, agent b at value t: these are i at v and j at w
unfoldable pub same_places : ℕ → ℕ → ℕ → ℕ → ℕ → ℕ → ℕ → ℕ → Bool
same_places a s b t i v j w = eqb a i && eqb s v && eqb b j && eqb t w

-- the statement bans value v of agent i with value w of agent j, i the lower-numbered: a ban, "either scanner first"; a gap, "every
-- pair of owned slots .. whose gap lies from LEAST to GREATEST"
unfoldable pub says_ban : Problem → ℕ → ℕ → ℕ → ℕ → Statement → Bool
says_ban p i j v w (Slots domains) = false
says_ban p i j v w (Ban a s b t) = ltb i j && (same_places a s b t i v j w || same_places b t a s i v j w)
says_ban p i j v w (Gap a b least greatest) =
    eqb a i && eqb b j && owns p i v && owns p j w && between least greatest (gap v w)

abbrev pub BansAsWritten : Type 0
BansAsWritten =
    (text s : List ℕ) (p : Problem) → sheet_of text ≡ Made s → decode s ≡ Valid p
    → (i j v w : ℕ) → banned p i j v w ≡ any (says_ban p i j v w) (statements_of text)

-- "the slot counts are those of the `slots` line", which is the first statement
pub record SlotsSaid (p : Problem) (statements : List Statement) : Type 0 where
  pub domains : List ℕ
  pub others : List Statement
  pub first : statements ≡ Slots domains ∷ others
  pub count : p.count ≡ length domains
  pub padded : p.domains ≡ domains ++ replicate (max_agents - length domains) 0

abbrev pub SlotsAsWritten : Type 0
SlotsAsWritten =
    (text s : List ℕ) (p : Problem) → sheet_of text ≡ Made s → decode s ≡ Valid p → SlotsSaid p (statements_of text)

-- ---- a text is judged by its first bytes, one more than the longest text has

abbrev pub JudgedByFront : Type 0
JudgedByFront = (text : List ℕ) → sheet_of (take (suc longest_text) text) ≡ sheet_of text
