-- The records of a ban sheet: one for each banned pair of slots. docs/FORMATS.md, 'Turning one edition into the other'.
use Rattle.std.specs.Prelude.{ℕ, suc, ◌-◌, cond, List, [], ◌∷◌}
use Rattle.model_base.specs.Finite.{gather}
use Rattle.model_sheet.specs.Problem.{Problem, domain, banned}
use Rattle.model_sheet.specs.Row.{Row}

-- what f has for each two of n agents, "upward by lower scanner, higher scanner"
unfoldable pub over_pairs : ℕ → (ℕ → ℕ → List Row) → List Row
over_pairs n f = gather n 1 (λ i. gather (n - i) (suc i) (f i))

-- the record of lower agent i at value v and higher agent j at value w
abbrev pub pair_row : ℕ → ℕ → ℕ → ℕ → Row
pair_row i j v w = record { lower = i; higher = j; low = v; high = w }

-- value v of lower agent i with the values of higher agent j, where they are banned
unfoldable pub bans_with : Problem → ℕ → ℕ → ℕ → List Row
bans_with p i j v = gather (domain p j) 1 (λ w. cond (banned p i j v w) (pair_row i j v w ∷ []) [])

-- the banned pairs of the two, upward by "lower slot, higher slot"
unfoldable pub bans_of : Problem → ℕ → ℕ → List Row
bans_of p i j = gather (domain p i) 1 (bans_with p i j)

-- "one record for each banned pair of slots"
unfoldable pub ban_rows : Problem → List Row
ban_rows p = over_pairs p.count (bans_of p)
