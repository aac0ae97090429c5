-- `Sheet::add_record` is the table with what a record bans.
-- Its pairs joined to the word of its two agents.
use Rattle.std.proofs.Common.{arith}
use Rattle.sheet_records.proofs.Records.{good-row, table-there}
use Rattle.sheet_records.proofs.bytes.Sheet.add_record.Goals as goal

pub word_at-word-requires : goal.word_at-word-requires
word_at-word-requires c = omega (arith, good-row _ _ _ c.requires.0 c.row-row.ensures)

pub returns : goal.returns
returns c =
    rw c.word_at-word.ensures.0
    (table-there _ c.args.r c.row_pairs.result _ c.row-row.result c.requires.0 c.row-row.ensures c.requires.1 c.row_pairs.ensures)
