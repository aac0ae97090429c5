-- `put_record` writes one record.
-- The row's four bytes and the index that leads on.
use Rattle.std.proofs.Common.{◌≡◌, sym, ◌∙◌, suc, ◌+◌, ◌*◌, ◌/◌, ◌%◌, arith}
use Rattle.sheet_writer.specs.Rows.{row_of, next_index}
use Rattle.sheet_writer.proofs.Sheets.{next-on, next-none, next_small, row-bytes}
use Rattle.sheet_writer.proofs.writing.put_record.Goals as goal
use Rattle.sheet_writer.proofs.writing.put_record.Goals.{else-r-records, then-r-records}

pub returns : goal.returns
returns c =
    let a = c.args in
    let next : c.if-r-records.next ≡ next_index a.r a.records =
    elim c.if-r-records.branch [
      | then-r-records u ↦ u.next-is ∙ sym (next-on a.r a.records (omega (arith, u.if-r-records.true)))
      | else-r-records u ↦ u.next-is ∙ sym (next-none a.r a.records (omega (arith, u.if-r-records.false)))
    ] in
    let high : next_index a.r a.records / 256 % 256 ≡ next_index a.r a.records / 256 = omega (arith, next_small a.r a.records (omega arith)) in
    let far : 24 + 8 * a.r + 8 ≡ 24 + 8 * suc a.r = omega arith in
    c.put.ensures ∙ rw (c.to_le_bytes.ensures, next, high, far, row-bytes (row_of a.row) (next_index a.r a.records))
