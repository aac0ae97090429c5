-- What `dock` prints of a sheet, as bytes in ASCII: "`sheet refused` and the number. Otherwise it prints `verdict` and the word, `rounds` and the
-- count, and for `plan` a line for each scanner".
use Rattle.std.specs.Prelude.{ℕ, suc, ◌≡◌, true, false, List, [], ◌∷◌, ◌++◌, eqb, length, take}
use Rattle.model_base.specs.Finite.{gather}
use Rattle.model_sheet.specs.Sheet.{longest_sheet}
use Rattle.model_network.specs.Network.{Network, start_sheet}
use Rattle.model_network.specs.Delivery.{ask_value}
use Rattle.model_network.specs.Run.{Ending, Unsolvable, Plan, Jammed, Open, Broken, ending_word, Ran}
use Rattle.abt_record.specs.Abstract.{network_of}
use Rattle.abt_engine.specs.declared.Answer.{Answer}
use Rattle.abt_engine.specs.Answers.{ending_of}
use Rattle.model_base.specs.Decimal.{decimal, newline, line_of}
use Rattle.abt_dock_text.specs.Settling.{program_rule, settled}

-- ---- the words

-- "sheet refused "
unfoldable pub sheet_refused : List ℕ
sheet_refused = 115 ∷ 104 ∷ 101 ∷ 101 ∷ 116 ∷ 32 ∷ 114 ∷ 101 ∷ 102 ∷ 117 ∷ 115 ∷ 101 ∷ 100 ∷ 32 ∷ []

-- "verdict "
unfoldable pub verdict : List ℕ
verdict = 118 ∷ 101 ∷ 114 ∷ 100 ∷ 105 ∷ 99 ∷ 116 ∷ 32 ∷ []

-- "rounds "
unfoldable pub rounds : List ℕ
rounds = 114 ∷ 111 ∷ 117 ∷ 110 ∷ 100 ∷ 115 ∷ 32 ∷ []

-- "scanner "
unfoldable pub scanner : List ℕ
scanner = 115 ∷ 99 ∷ 97 ∷ 110 ∷ 110 ∷ 101 ∷ 114 ∷ 32 ∷ []

-- " slot "
unfoldable pub slot : List ℕ
slot = 32 ∷ 115 ∷ 108 ∷ 111 ∷ 116 ∷ 32 ∷ []

-- ---- the lines

-- a scanner's number, and its slot
unfoldable pub slot_line : ℕ → ℕ → List ℕ
slot_line i v = scanner ++ (decimal i ++ line_of slot v)

unfoldable pub slot_lines : Network → List ℕ
slot_lines w = gather w.problem.count 1 (λ i. slot_line i (ask_value w i).value)

-- "for `plan` a line for each scanner"
unfoldable pub plan_lines : Ending → Network → List ℕ
plan_lines Unsolvable w = []
plan_lines Plan w = slot_lines w
plan_lines Jammed w = []
plan_lines Open w = []
plan_lines Broken w = []

-- how the run ended, its full rounds, and what it left
unfoldable pub ran_text : Ending → ℕ → Network → List ℕ
ran_text e made w = verdict ++ (ending_word e ++ (newline ++ (line_of rounds made ++ plan_lines e w)))

-- the same of an answer in code
unfoldable pub answer_text : Answer → List ℕ
answer_text a = ran_text (ending_of a.ending) a.rounds (network_of a.network)

-- by the number of the sheet's fault, 0 for none, and the run
unfoldable pub settled_text : ℕ → Ran → List ℕ
settled_text number r = elim (eqb number 0) [ true ↦ ran_text r.ending r.made r.network | false ↦ line_of sheet_refused number ]

-- the text for a sheet, with so many rounds allowed
unfoldable pub dock_text : ℕ → List ℕ → List ℕ
dock_text rounds sheet = settled_text (start_sheet program_rule sheet).number (settled rounds sheet)

-- The first n bytes of a buffer are the text for the sheet; and for every input that begins with the sheet where it is cut behind one byte more than the
-- longest sheet has. "Input longer than any sheet meets the same checks."
pub record Prints (rounds : ℕ) (sheet buffer : List ℕ) (n : ℕ) : Type 0 where
  pub count : n ≡ length (dock_text rounds sheet)
  pub text : take n buffer ≡ dock_text rounds sheet
  pub whole : (input : List ℕ) → take (suc longest_sheet) input ≡ sheet → take n buffer ≡ dock_text rounds input
