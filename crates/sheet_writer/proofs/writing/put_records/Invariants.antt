-- `put_records` writes the records, one behind the other.
-- What is left to put leaves what putting all would have left.
use Rattle.sheet_writer.specs.Rows.{rows_of}
use Rattle.sheet_writer.proofs.Sheets.{Left}
use Rattle.sheet_writer.proofs.writing.put_records.Given as goal

abbrev pub invariant-loop-r : goal.invariant-loop-r
invariant-loop-r l = Left (rows_of l.rows) l.initial.out l.out l.r
