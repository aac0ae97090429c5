-- What the code's parts say of one word of the table: its pairs of slots, the runs of its gaps, and its gaps as bits.
use Rattle.std.specs.Prelude.{ℕ, ◌+◌, ◌^◌, ◌≤◌, ◌<◌, ◌≡◌, Bool, cond, ◌&&◌, ◌||◌, List, [], ◌∷◌, length, eqb}
use Rattle.model_base.specs.Finite.{gather}
use Rattle.model_base.specs.Bits.{bit}
use Rattle.model_sheet.specs.Problem.{bit_at}
use Rattle.model_sheet.specs.Row.{Row}
use Rattle.model_editions.specs.Bans.{pair_row}
use Rattle.model_editions.specs.Gaps.{place_of, some_to, begins, run_row}

-- there is room for these behind those that are there. No sheet has more than 4,224 records
abbrev pub Room : List Row → List Row → Type 0
Room rows more = length rows + length more ≤ 4224

-- the pair of values v and w, if the word has it
unfoldable pub pair_in : ℕ → ℕ → ℕ → ℕ → ℕ → List Row
pair_in i j word v w = cond (bit word (bit_at v w)) (pair_row i j v w ∷ []) []

-- the pairs that it has of the lower's value v
unfoldable pub pairs_with : ℕ → ℕ → ℕ → ℕ → ℕ → List Row
pairs_with i j e word v = gather e 1 (pair_in i j word v)

unfoldable pub pairs_of : ℕ → ℕ → ℕ → ℕ → ℕ → List Row
pairs_of i j d e word = gather d 1 (pairs_with i j e word)

-- the run that begins at place k, if one does
unfoldable pub run_in : ℕ → ℕ → (ℕ → Bool) → ℕ → List Row
run_in i j g k = cond (begins g k) (run_row i j g k ∷ []) []

-- a pair that it has of the lower's value v is at place k
unfoldable pub gap_with : ℕ → ℕ → ℕ → ℕ → Bool
gap_with e word v k = some_to e (λ w. eqb (place_of v w) k && bit word (bit_at v w))

-- y has the bits of x, and those that f names
pub record Marked (x y : ℕ) (f : ℕ → Bool) : Type 0 where
  pub short : y < 2 ^ 15
  pub bits : (k : ℕ) → bit y k ≡ bit x k || f k
