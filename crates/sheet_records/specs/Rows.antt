-- A record as the code has it. A primed name is the definitions'.
use Rattle.std.specs.Prelude.{◌≤◌, List, map}
use Rattle.model_sheet.specs.Row.{Row as Row'}
use Rattle.sheet_records.specs.declared.row.Row.{Row}

abbrev pub row_of : Row → Row'
row_of r = record { lower = r.lower; higher = r.higher; low = r.low; high = r.high }

abbrev pub rows_of : List Row → List Row'
rows_of rows = map row_of rows

-- it names two possible agents
pub record Possible (row : Row) : Type 0 where
  pub lower : (1 ≤ row.lower) × (row.lower ≤ 12)
  pub higher : (1 ≤ row.higher) × (row.higher ≤ 12)
