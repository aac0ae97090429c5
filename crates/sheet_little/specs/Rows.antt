-- The twelve pairs of slots of three agents with two slots each, and those of them that are owned.
use Rattle.std.specs.Prelude.{ℕ, ◌+◌, ◌-◌, ◌/◌, ◌%◌, Bool, cond, ◌&&◌, List, [], ◌∷◌, eqb, ltb, leb}
use Rattle.model_base.specs.Finite.{gather}
use Rattle.model_sheet.specs.Row.{Row}
use Rattle.sheet_little.specs.declared.choice.Counts.{Counts}

-- pair k, of 0 to 11
unfoldable pub place_at : ℕ → Row
place_at k = record { lower = 1 + k / 8; higher = cond (ltb k 4) 2 3; low = 1 + k / 2 % 2; high = 1 + k % 2 }

unfoldable pub slots_of : Counts → ℕ → ℕ
slots_of c i = cond (eqb i 1) c.first (cond (eqb i 2) c.second c.third)

unfoldable pub owned_by : Counts → ℕ → Bool
owned_by c k = leb (place_at k).low (slots_of c (place_at k).lower) && leb (place_at k).high (slots_of c (place_at k).higher)

-- the owned pairs from k on
unfoldable pub rows_from : Counts → ℕ → List Row
rows_from c k = gather (12 - k) k (λ k. cond (owned_by c k) (place_at k ∷ []) [])

-- this pair, if the lowest bit of x is 1
unfoldable pub ban_of : ℕ → Row → List Row
ban_of x row = cond (eqb (x % 2) 1) (row ∷ []) []
