-- `append_row` puts the line of a record.
-- The edition says which kind it is.
use Rattle.std.proofs.Common.{eq-eqb, ne_eqb}
use Rattle.model_text.specs.Telling.{row_line}
use Rattle.sheet_text_writer.proofs.lines.append_row.Goals as goal

pub append_gap-requires : goal.append_gap-requires
unfolding row_line
append_gap-requires c = rw (eq-eqb _ 2 c.if-edition-eq2.true) at c.requires

pub returns-then-edition-eq2 : goal.returns-then-edition-eq2
unfolding row_line
returns-then-edition-eq2 c = rw (eq-eqb _ 2 c.if-edition-eq2.true) c.append_gap.ensures

pub append_ban-requires : goal.append_ban-requires
unfolding row_line
append_ban-requires c = rw (ne_eqb _ 2 c.if-edition-eq2.false) at c.requires

pub returns-else-edition-eq2 : goal.returns-else-edition-eq2
unfolding row_line
returns-else-edition-eq2 c = rw (ne_eqb _ 2 c.if-edition-eq2.false) c.append_ban.ensures
