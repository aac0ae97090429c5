-- `put_sheet` writes the sheet, where there is room.
-- The header, and the records behind it.
use Rattle.std.proofs.Common.{◌≡◌, sym, arith, length}
use lib.ListN.{length-map}
use Rattle.model_base.specs.Lent.{short_buffer}
use Rattle.sheet_reader.specs.Abstract.{problem_of}
use Rattle.support_buffer.specs.Abstract.{written_of}
use Rattle.sheet_writer.specs.Rows.{row_of, rows_of}
use Rattle.sheet_writer.proofs.Sheets.{sheet-short, sheet-put}
use Rattle.sheet_writer.proofs.put_sheet.Goals as goal

pub returns-then-out-length : goal.returns-then-out-length
unfolding short_buffer written_of problem_of
returns-then-out-length c =
    let a = c.args in
    let room : length (rows_of a.rows.now) ≡ length a.rows.now = length-map a.rows.now row_of in
    sym (sheet-short a.edition (problem_of a.p) (rows_of a.rows.now) (length a.rows.now) room (omega arith) a.out.now (omega arith))

pub returns : goal.returns
unfolding written_of problem_of
returns c =
    let a = c.args in
    let room : length (rows_of a.rows.now) ≡ length a.rows.now = length-map a.rows.now row_of in
    sym
    (sheet-put a.edition (problem_of a.p) (rows_of a.rows.now) (length a.rows.now) room (omega arith) a.out.now _ _ (omega arith)
    c.put_header.ensures c.put_records.ensures)
