-- The fields are those of the empty draft. Assumes nothing.
use Rattle.std.proofs.Common.{refl}
use Rattle.model_sheet.specs.Problem.{max_agents, empty_problem}
use Rattle.model_text.specs.Drafts.{no_draft}
use Rattle.sheet_text_drafts.specs.Drafting.{problem_in, draft_in}
use Rattle.sheet_text_drafts.proofs.draft.Draft.new.Goals as goal

pub returns : goal.returns
unfolding draft_in problem_in no_draft empty_problem max_agents
returns c = rw (c.without_bans.ensures, c.new.ensures) refl
