-- The lower agent first, each value with its agent. Assumes nothing.
use Rattle.sheet_text_drafts.proofs.Taking.{ban-lower, ban-higher}
use Rattle.sheet_text_drafts.proofs.records.ban_row.Goals as goal

pub returns-then-q : goal.returns-then-q
returns-then-q c = ban-lower _ _ _ _ c.if-q.true

pub returns-else-q : goal.returns-else-q
returns-else-q c = ban-higher _ _ _ _ c.if-q.false
