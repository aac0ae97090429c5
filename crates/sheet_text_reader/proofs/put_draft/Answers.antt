-- A draft is written as it is, in its edition. Assumes nothing.
use Rattle.std.proofs.Common.{refl, ◌∙◌}
use Rattle.model_text.specs.Reading.{edition_of, sheet_from}
use Rattle.sheet_text_drafts.specs.Drafting.{problem_in, draft_in}
use Rattle.sheet_text_reader.proofs.put_draft.Goals as goal

pub returns : goal.returns
unfolding sheet_from edition_of draft_in problem_in
returns c = c.put_sheet.ensures ∙ rw (c.edition_of.ensures, c.as_slice.ensures.records) refl
