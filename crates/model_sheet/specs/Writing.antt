-- Writing a sheet: the bytes that say a problem's n and slot counts and these rows. docs/FORMATS.md, 'The sheet', from the writer's side.
use Rattle.std.specs.Prelude.{ℕ, suc, ◌/◌, ◌%◌, List, [], ◌∷◌, ◌++◌, length}
use Rattle.model_sheet.specs.Problem.{Problem}
use Rattle.model_sheet.specs.Row.{Row}

-- two bytes, little-endian
unfoldable pub two_bytes : ℕ → List ℕ
two_bytes k = k % 256 ∷ k / 256 ∷ []

-- edition, n, index of the first record, record count, twelve slot counts
unfoldable pub header_bytes : ℕ → ℕ → ℕ → ℕ → List ℕ → List ℕ
header_bytes edition n first m domains =
    (n ∷ edition ∷ []) ++ two_bytes first ++ two_bytes m ++ (0 ∷ 0 ∷ []) ++ domains ++ (0 ∷ 0 ∷ 0 ∷ 0 ∷ [])

-- "the lower scanner, the higher scanner, .. the index of the next record (two bytes), two zero bytes"
unfoldable pub row_bytes : Row → ℕ → List ℕ
row_bytes row next = (row.lower ∷ row.higher ∷ row.low ∷ row.high ∷ []) ++ two_bytes next ++ (0 ∷ 0 ∷ [])

-- the index that leads on from record r to the rows that are left. "Index 0 ends the chain."
unfoldable pub index_after : ℕ → List Row → ℕ
index_after r [] = 0
index_after r (row ∷ rows) = suc r

-- records chained in their order, the first of them behind record r
unfoldable pub chained : ℕ → List Row → List ℕ
chained r [] = []
chained r (row ∷ rows) = row_bytes row (index_after (suc r) rows) ++ chained (suc r) rows

-- the sheet of this edition with p's n and slot counts and these rows, "chained in record order from 1, with none spare"
unfoldable pub written : ℕ → Problem → List Row → List ℕ
written edition p rows =
    header_bytes edition p.count (index_after 0 rows) (length rows) p.domains ++ chained 0 rows
