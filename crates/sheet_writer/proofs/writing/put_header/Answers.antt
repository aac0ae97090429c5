-- `put_header` writes the header.
-- Its front, the slot counts and the zeros, one behind the other.
use Rattle.std.proofs.Common.{◌≡◌, ◌∙◌, ◌/◌, ◌%◌, arith, ltb, length}
use Rattle.sheet_writer.proofs.Sheets.{one_or_none, header-put}
use Rattle.sheet_writer.proofs.writing.put_header.Goals as goal

pub returns : goal.returns
returns c =
    let a = c.args in
    let long : length a.p.domains ≡ 12 = omega arith in
    let high : a.records / 256 % 256 ≡ a.records / 256 = omega arith in
    header-put a.edition a.p.count (ltb 0 a.records) a.records a.p.domains long a.out.now _ _ _ (omega arith)
    (c.put.ensures ∙ rw (c.from-first.ensures, one_or_none, c.to_le_bytes.ensures, high)) c.put-2.ensures c.put-3.ensures
