-- The refusal's number, or the sender's row less what is no channel's.
use Rattle.std.proofs.Common.{◌∙◌, add-one}
use Rattle.bench_entry.proofs.Giving.{row-given, row-held, none-held}
use Rattle.bench_entry.proofs.bench_entry_start.Goals as goal

pub returns-in-Ok : goal.returns-in-Ok
returns-in-Ok c =
    row-given _ _ c.in-Ok.network _ c.in-Ok.ensures _ (λ j. rw add-one at (c.lines_of.ensures j) ∙ row-held _ _ j)

pub returns-in-Ok-2 : goal.returns-in-Ok-2
returns-in-Ok-2 c = row-given _ _ c.in-Ok-2.field-0 _ c.in-Ok-2.ensures _ (λ j. none-held _ _ j c.if-sender-lt12.false)
