-- What the code's parts say of two agents: their slot counts and their word of the table, and what follows from these alone.
use Rattle.std.specs.Prelude.{ℕ, pred, ◌≡◌, Bool, not, cond, ◌&&◌, List, get_or, eqb}
use Rattle.model_base.specs.Finite.{all_to}
use Rattle.model_base.specs.Bits.{bit}
use Rattle.model_sheet.specs.Problem.{Problem, domain, bit_at, word_at}
use Rattle.model_sheet.specs.Row.{Row}
use Rattle.model_editions.specs.Bans.{over_pairs, bans_of}
use Rattle.model_editions.specs.Gaps.{has_gap, banned_gap, runs_of}
use Rattle.sheet_editions.specs.Rows.{pairs_of}
use Rattle.sheet_editions.specs.declared.pair.Pair.{Pair}

pub record Means (p : Problem) (i j : ℕ) (q : Pair) : Type 0 where
  pub lower : q.lower ≡ i
  pub higher : q.higher ≡ j
  pub slots : q.slots ≡ domain p i
  pub others : q.others ≡ domain p j
  pub word : q.word ≡ get_or p.bans (word_at i j) 0

-- the word has the pair
unfoldable pub in_word : ℕ → ℕ → ℕ → Bool
in_word word v w = bit word (bit_at v w)

unfoldable pub word_sayable : ℕ → ℕ → ℕ → Bool
word_sayable d e word =
    all_to 15 (λ k. not (has_gap d e (in_word word) (pred k) && has_gap d e (λ v w. not (in_word word v w)) (pred k)))

-- ---- the records of an edition

-- of a word
unfoldable pub word_rows : ℕ → ℕ → ℕ → ℕ → ℕ → ℕ → List Row
word_rows edition i j d e word = cond (eqb edition 1) (pairs_of i j d e word) (runs_of i j (has_gap d e (in_word word)))

-- of two agents
unfoldable pub rows_of : ℕ → Problem → ℕ → ℕ → List Row
rows_of edition p i j = cond (eqb edition 1) (bans_of p i j) (runs_of i j (banned_gap p i j))

-- of all agents
unfoldable pub all_rows : ℕ → Problem → List Row
all_rows edition p = over_pairs p.count (rows_of edition p)
