-- One more, in its place. Assumes nothing.
use Rattle.sheet_text_statements.proofs.Sayings.{counted}
use Rattle.sheet_text_statements.proofs.Slots.with_count.Goals as goal

pub returns : goal.returns
returns c = λ counts e. counted c.args.self counts e _ _ (c.domains_with.ensures counts e)
