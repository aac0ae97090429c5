-- `Sheet::row` has the row of record r.
-- Record r starts at 16 + 8r.
use Rattle.model_sheet.specs.Sheet.{byte_at, row_at, row_of as row_in}
use Rattle.sheet_records.proofs.Records.{start-at}
use Rattle.sheet_records.proofs.bytes.Sheet.row.Goals as goal

pub returns : goal.returns
unfolding byte_at row_at row_in
returns c = rw (start-at c.args.r c.requires.0)
