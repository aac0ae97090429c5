-- The visits of a round still ahead: the lines of sender i that `rest` has by its digits, upward, and those of the senders after it by the rows of what
-- each line held when the round began.
use Rattle.std.specs.Prelude.{ℕ, ◌+◌, ◌-◌, ◌≤◌, ◌<◌, ◌≡◌, List, ◌∷◌, ◌++◌, replicate}
use Rattle.model_base.specs.Finite.{gather}
use Rattle.model_agent.specs.Shape.{max_named}
use Rattle.abt_packed.specs.Packed.{assignment}
use Rattle.model_network.specs.Run.{Line}
use Rattle.abt_record.specs.Abstract.{row_of}
use Rattle.abt_engine.specs.declared.lines.Visit.{Visit}

abbrev pub line : ℕ → ℕ → Line
line i j = record { from = i; to = j }

-- the visits of one line, and of one sender's, by how many there are for each receiver
abbrev pub cell : (ℕ → ℕ) → ℕ → ℕ → List Line
cell held i j = replicate (held j) (line i j)

abbrev pub row : (ℕ → ℕ) → ℕ → List Line
row held i = gather max_named 1 (cell held i)

-- those of m senders from i on
abbrev pub rows : List ℕ → ℕ → ℕ → List Line
rows quota m i = gather m i (λ x. row (row_of quota x) x)

abbrev pub ahead : List ℕ → ℕ → ℕ → ℕ → List Line
ahead quota n i rest = row (assignment rest) i ++ rows quota (n - i) (i + 1)

-- the first of the visits ahead and those after it; of this sender's lines, those before it have none left
pub record NextVisit (quota : List ℕ) (n i rest : ℕ) (v : Visit) : Type 0 where
  pub high : v.from ≤ n
  pub some : ahead quota n i rest ≡ line v.from v.to ∷ ahead quota n v.from v.rest
  pub least : (j : ℕ) → 1 ≤ j → j < v.to → assignment v.rest j ≡ 0
