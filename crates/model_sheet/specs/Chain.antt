-- The records on a sheet's chain, and the claims about them.
use Rattle.std.specs.Prelude.{ℕ, zero, suc, ◌≡◌, ◌↔◌, true, false, List, [], ◌∷◌, map, eqb}
use Rattle.model_sheet.specs.Problem.{Problem, banned, linked, in_range}
use Rattle.model_sheet.specs.Row.{Row, rows_ban}
use Rattle.model_sheet.specs.Sheet.{Valid, edition_in, first_in, records_in, next_of, row_of, decode}

-- from record index r on, so many at most
unfoldable pub chain_from : ℕ → List ℕ → ℕ → List ℕ
chain_from zero s r = []
chain_from (suc steps) s r = elim (eqb r 0) [ true ↦ [] | false ↦ r ∷ chain_from steps s (next_of s r) ]

-- what the records on the chain say, in its order
unfoldable pub rows_in : List ℕ → List Row
rows_in s = map (row_of s) (chain_from (suc (records_in s)) s (first_in s))

-- ---- claims, for sheets of either edition

-- an accepted sheet gives a problem in range
abbrev pub DecodesInRange : Type 0
DecodesInRange = (s : List ℕ) (p : Problem) → decode s ≡ Valid p → in_range p ≡ true

-- a ban stands in the table exactly if a record on the chain says so
abbrev pub BansAsSaid : Type 0
BansAsSaid =
    (s : List ℕ) (p : Problem) → decode s ≡ Valid p → (i j v w : ℕ) → banned p i j v w ≡ rows_ban (edition_in s) p (rows_in s) i j v w

-- "Two scanners are linked from the start exactly if some ban names both"
abbrev pub LinksAsBanned : Type 0
LinksAsBanned =
    (s : List ℕ) (p : Problem) → decode s ≡ Valid p → (i j : ℕ)
    → linked p i j ≡ true ↔ ((v : ℕ) × (w : ℕ) × (banned p i j v w ≡ true))
