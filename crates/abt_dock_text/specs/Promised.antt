-- What a sheet comes to tells of the problem that the sheet says, and so does its text: whatever word, count and slots the text says.
use Rattle.std.specs.Prelude.{ℕ, ◌≡◌, List, [], ◌++◌}
use Rattle.model_base.specs.Finite.{gather}
use Rattle.model_sheet.specs.Problem.{Problem}
use Rattle.model_sheet.specs.Sheet.{Valid, decode}
use Rattle.model_network.specs.Run.{Ending, Unsolvable, Plan, Jammed, Open, Broken, ending_word}
use Rattle.theorems_network.specs.Claims.{Tells}
use Rattle.abt_engine.specs.declared.Answer.{Answer}
use Rattle.abt.specs.Promised.{AnswerTells}
use Rattle.model_base.specs.Decimal.{newline, line_of}
use Rattle.abt_dock_text.specs.Text.{verdict, rounds, slot_line}

-- the answer tells of the problem of the sheet, if that is accepted; no run came before
abbrev pub SheetTells : List ℕ → Answer → Type 0
SheetTells sheet ran = (p : Problem) → decode sheet ≡ Valid p → AnswerTells p 0 ran

-- ---- the text

-- for `plan` a line for each of n scanners, with these slots
unfoldable pub listed : ℕ → Ending → (ℕ → ℕ) → List ℕ
listed n Unsolvable slots = []
listed n Plan slots = gather n 1 (λ i. slot_line i (slots i))
listed n Jammed slots = []
listed n Open slots = []
listed n Broken slots = []

-- the text that says this word, this count of full rounds, and for `plan` these slots
unfoldable pub told_text : ℕ → Ending → ℕ → (ℕ → ℕ) → List ℕ
told_text n word made slots = verdict ++ (ending_word word ++ (newline ++ (line_of rounds made ++ listed n word slots)))

-- A text says a word, a count and slots; and any that it says tell of the problem: behind `plan` the slots obey all bans, behind `none` no choice of slots
-- does, and the count obeys the bound.
pub record TextTells (p : Problem) (text : List ℕ) : Type 0 where
  pub says : (word : Ending) × (made : ℕ) × (slots : ℕ → ℕ) × (text ≡ told_text p.count word made slots)
  pub tells : (word : Ending) (made : ℕ) (slots : ℕ → ℕ) → text ≡ told_text p.count word made slots → Tells p 0 word made slots

-- the text tells of the problem of the sheet, if that is accepted
abbrev pub TextPromised : List ℕ → List ℕ → Type 0
TextPromised sheet text = (p : Problem) → decode sheet ≡ Valid p → TextTells p text
