-- Both gaps as signed bytes. Assumes nothing.
use Rattle.std.proofs.Common.{refl, ap, ◌∙◌}
use Rattle.model_text.specs.Drafts.{gap_byte, gap_record}
use Rattle.sheet_text_drafts.proofs.Signs.{gap-kept}
use Rattle.sheet_text_drafts.proofs.records.gap_row.Goals as goal

pub returns : goal.returns
unfolding gap_record
returns c =
    let q = c.args.q in
    rw (c.gap_byte.ensures ∙ ap gap_byte (gap-kept q.least c.requires.2), c.gap_byte-2.ensures ∙ ap gap_byte (gap-kept q.greatest c.requires.3)) refl
