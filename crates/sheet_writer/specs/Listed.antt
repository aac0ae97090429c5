-- The records that are listed say all that the list holds: behind them all is zero.
use Rattle.std.proofs.Common.{ℕ, ◌-◌, ◌≤◌, ◌≡◌, refl, ap, ◌∙◌, List, [], ◌∷◌, map, length, take, drop, replicate, arith, length-take-le, take-append-drop}
use lib.ListN.{length-map}
use Rattle.sheet_records.specs.declared.row.Row.{Row}
use Rattle.sheet_writer.specs.Rows.{row_of, rows_of, row_from, no_row, padded}

back : (rows : List Row) → map row_from (rows_of rows) ≡ rows
back [] = refl
back (row ∷ rows) = ap (λ (l : List Row). row ∷ l) (back rows)

module _ (n count : ℕ) (rows : List Row) (few : count ≤ n) (long : length rows ≡ n) where
  pub length-listed : length (rows_of (take count rows)) ≡ count
  length-listed = length-map (take count rows) row_of ∙ length-take-le count rows (omega (arith, long))

  pub padded-listed : drop count rows ≡ replicate (n - count) no_row → padded n (rows_of (take count rows)) ≡ rows
  padded-listed e = rw (length-listed, back (take count rows), ← e) (take-append-drop count rows)
