-- Seven fits, with either sign. Assumes nothing.
use Rattle.std.proofs.Common.{◌∙◌}
use Rattle.sheet_text_drafts.proofs.Signs.{gap-kept, gap-fits, gap-byte}
use Rattle.sheet_text_drafts.proofs.records.gap_byte.Goals as goal

pub overflow_cast-x : goal.overflow_cast-x
overflow_cast-x c = rw (gap-kept c.args.x c.requires) (gap-fits c.args.x c.requires)

pub returns : goal.returns
returns c = c.cast_unsigned.ensures ∙ rw (gap-kept c.args.x c.requires) (gap-byte c.args.x c.requires)
