-- `Pair::put_run` puts down the run that begins at a place.
-- One row more, or none.
use Rattle.std.proofs.Common.{sym, ◌∙◌, arith}
use Rattle.model_editions.specs.Gaps.{run_row}
use Rattle.sheet_editions.specs.Rows.{run_in}
use Rattle.sheet_editions.proofs.Filling.{one-room, put-down, left_out}
use Rattle.sheet_editions.proofs.pair.Pair.put_run.Goals as goal

pub push-requires : goal.push-requires
unfolding run_in
push-requires c = (omega arith, one-room _ _ _ (sym c.begins.ensures ∙ c.if-begins.true) c.requires.1)

pub returns-then-begins : goal.returns-then-begins
unfolding run_in run_row
returns-then-begins c =
    put-down _ _ _ _ (sym c.begins.ensures ∙ c.if-begins.true)
    (rw (c.row.ensures, c.gap_byte.ensures, c.gap_byte-then-begins.ensures, c.last_of.ensures.0) at c.push.ensures)

pub returns-else-begins : goal.returns-else-begins
unfolding run_in
returns-else-begins c = left_out _ _ _ (sym c.begins.ensures ∙ c.if-begins.false)
