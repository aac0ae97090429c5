use Rattle.std.proofs.Common.{sym, ◌∙◌}
use Rattle.support_cli.proofs.Putting.{puts_nothing}
use Rattle.season_cli.specs.Pieces.{progress_behind}
use Rattle.season_cli.proofs.say_progress.Goals as goal

pub returns-then-is_due : goal.returns-then-is_due
unfolding progress_behind
returns-then-is_due g c =
    let t = sym c.is_due.ensures ∙ c.if-is_due.true in
    rw (t, progress_behind) (rw c.line_of_progress-length.ensures.text at c.put.ensures)

pub returns-else-is_due : goal.returns-else-is_due
unfolding progress_behind
returns-else-is_due g c =
    let t = sym c.is_due.ensures ∙ c.if-is_due.false in
    rw (t, progress_behind) (puts_nothing _)
