-- The rows of a sheet as the code holds them, and how the records that are written of them are chained. A primed name is the definitions'.
use Rattle.std.specs.Prelude.{ℕ, suc, ◌+◌, ◌-◌, cond, ltb, List, ◌++◌, map, length, replicate}
use Rattle.model_sheet.specs.Row.{Row as Row'}
use Rattle.sheet_records.specs.declared.row.Row.{Row}
pub use Rattle.sheet_records.specs.Rows.{row_of, rows_of}

-- the row of a record: `row_of` turned round
abbrev pub row_from : Row' → Row
row_from r = record { lower = r.lower; higher = r.higher; low = r.low; high = r.high }

-- the row of four zeros, at each place behind the records that are listed
abbrev pub no_row : Row
no_row = record { lower = 0; higher = 0; low = 0; high = 0 }

-- so many rows: those of the records, and zeros behind them
abbrev pub padded : ℕ → List Row' → List Row
padded n records = map row_from records ++ replicate (n - length records) no_row

-- the index that record r + 1 of so many leads to
unfoldable pub next_index : ℕ → ℕ → ℕ
next_index r records = cond (ltb (suc r) records) (r + 2) 0
