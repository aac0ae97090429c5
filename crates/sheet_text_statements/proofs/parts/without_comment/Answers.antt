-- What stands before the first `#`. Assumes nothing.
use Rattle.std.proofs.Common.{ap, ◌∙◌}
use Rattle.model_text.specs.Words.{is_hash, without_comment}
use Rattle.sheet_text_statements.proofs.Searching.{position-some, position-none}
use Rattle.sheet_text_statements.proofs.Pieces.{comment-bare, no-comment}
use Rattle.sheet_text_statements.proofs.parts.without_comment.Goals as goal

pub returns-in-Some : goal.returns-in-Some
unfolding is_hash
returns-in-Some c = comment-bare _ _ (position-some is_hash _ _ c.in-Some.ensures).0 ∙ ap without_comment c.without_return-line.ensures

pub returns-in-None : goal.returns-in-None
unfolding is_hash
returns-in-None c = no-comment _ (position-none is_hash _ c.in-None.ensures) ∙ ap without_comment c.without_return-line.ensures
