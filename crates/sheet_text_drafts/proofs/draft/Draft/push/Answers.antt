-- One row more, and its edition. Assumes nothing.
use Rattle.std.proofs.Common.{refl}
use Rattle.model_text.specs.Drafts.{with_record}
use Rattle.sheet_text_drafts.specs.Drafting.{problem_in, draft_in}
use Rattle.sheet_text_drafts.proofs.draft.Draft.push.Goals as goal

pub returns : goal.returns
unfolding draft_in problem_in with_record
returns c = rw c.push.ensures refl
