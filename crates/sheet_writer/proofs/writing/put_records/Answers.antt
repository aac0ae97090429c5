-- `put_records` writes the records, one behind the other.
-- What is left to put leaves what putting all would have left.
use Rattle.std.proofs.Common.{◌≡◌, add-one, arith, length, rules}
use lib.ListN.{length-map, get_or-map}
use Rattle.sheet_writer.specs.Rows.{row_of, rows_of}
use Rattle.sheet_writer.proofs.Sheets.{less-left, none_left}
use Rattle.sheet_writer.proofs.writing.put_records.Goals as goal

pub loop-r-preserved : goal.loop-r-preserved
loop-r-preserved c =
    let l = c.loop-r in
    let rows = c.args.rows.now in
    let long : length (rows_of rows) ≡ length rows = length-map rows row_of in
    let same : length c.put_record.new.out ≡ length l.out = search rules in
    let here = get_or-map row_of rows l.r (record { lower = 0; higher = 0; low = 0; high = 0 }) in
    rw (add-one l.r) (less-left (rows_of rows) _ l.out _ l.r _ _ (omega arith) here (omega arith) l.invariant (rw long c.put_record.ensures) same)

pub returns : goal.returns
returns c =
    let l = c.loop-r in
    let long : length (rows_of c.args.rows.now) ≡ length c.args.rows.now = length-map c.args.rows.now row_of in
    rw long at (none_left (rows_of c.args.rows.now) _ _ l.r (omega arith) l.invariant)
