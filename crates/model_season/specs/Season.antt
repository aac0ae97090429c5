-- A season's figures: what a list of sheets comes to. docs/PROGRAMS.md, 'A season's figures'.
use Rattle.std.specs.Prelude.{ℕ, suc, ◌+◌, min, max, Bool, true, false, List, [], ◌∷◌, eqb, None, Option, Some}
use Rattle.model_network.specs.Network.{start_sheet}
use Rattle.model_network.specs.Run.{Ending, Unsolvable, Plan, Jammed, Open, Broken, one_if, Ran, run}

-- ---- one sheet

-- "by rule 1"
unfoldable pub season_rule : ℕ
season_rule = 1

-- "with 100,000 rounds"
unfoldable pub season_rounds : ℕ
season_rounds = 100000

-- "A sheet is refused with a number, 1 to 4, or it ends with a word and its full rounds."
pub data Outcome : Type 0 where
  Refused : ℕ → Outcome
  Ended : Ending → ℕ → Outcome

-- by the number of the sheet's fault, 0 for none, and the run
unfoldable pub outcome_by : ℕ → Ran → Outcome
outcome_by number r = elim (eqb number 0) [ true ↦ Ended r.ending r.made | false ↦ Refused number ]

unfoldable pub outcome : List ℕ → Outcome
outcome sheet = outcome_by (start_sheet season_rule sheet).number (run season_rounds (start_sheet season_rule sheet).network)

-- ---- the figures

-- the rounds of the sheets that are counted: how many sheets, the fewest and the most rounds of one, and their sum
pub record Rounds : Type 0 where
  pub count : ℕ
  pub fewest : ℕ
  pub most : ℕ
  pub sum : ℕ

pub record Figures : Type 0 where
  pub sheets : ℕ
  pub refused : ℕ → ℕ  -- by number
  pub words : ℕ → ℕ  -- by the place of the word
  pub rounds : Option Rounds  -- none where no sheet is counted

unfoldable pub no_figures : Figures
no_figures = record { sheets = 0; refused = λ k. 0; words = λ k. 0; rounds = None }

-- "`none`, `plan`, `jammed`, `open`", from 1; 0 for no word
unfoldable pub place : Ending → ℕ
place Unsolvable = 1
place Plan = 2
place Jammed = 3
place Open = 4
place Broken = 0

-- "The last four speak of the rounds of `none` and `plan` together"
unfoldable pub has_rounds : Ending → Bool
has_rounds Unsolvable = true
has_rounds Plan = true
has_rounds Jammed = false
has_rounds Open = false
has_rounds Broken = false

-- one more of kind k
unfoldable pub one_more : (ℕ → ℕ) → ℕ → ℕ → ℕ
one_more f k j = f j + one_if (eqb j k)

-- the rounds of one sheet more
unfoldable pub with_rounds : ℕ → Option Rounds → Option Rounds
with_rounds n None = Some (record { count = 1; fewest = n; most = n; sum = n })
with_rounds n (Some r) = Some (record { count = suc r.count; fewest = min n r.fewest; most = max n r.most; sum = n + r.sum })

unfoldable pub counting : Ending → ℕ → Option Rounds → Option Rounds
counting e n r = elim (has_rounds e) [ true ↦ with_rounds n r | false ↦ r ]

-- the figures with one sheet more
unfoldable pub with_outcome : Outcome → Figures → Figures
with_outcome (Refused k) f =
    record { sheets = suc f.sheets; refused = one_more f.refused k; words = f.words; rounds = f.rounds }
with_outcome (Ended e n) f =
    record { sheets = suc f.sheets; refused = f.refused; words = one_more f.words (place e); rounds = counting e n f.rounds }

unfoldable pub figures_of : List (List ℕ) → Figures
figures_of [] = no_figures
figures_of (sheet ∷ more) = with_outcome (outcome sheet) (figures_of more)
