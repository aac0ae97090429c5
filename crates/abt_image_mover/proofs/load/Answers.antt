-- `load` reads the form that the first byte says.
use Rattle.std.proofs.Common.{sym, ◌∙◌}
use Rattle.abt_image_mover.proofs.Answers.{as_first, as-second}
use Rattle.abt_image_mover.proofs.load.Goals as goal

pub returns-then-is_second : goal.returns-then-is_second
returns-then-is_second c = c.load_second.ensures ∙ sym (as-second c.args.s.now (sym c.is_second.ensures ∙ c.if-is_second.true))

pub returns-else-is_second : goal.returns-else-is_second
returns-else-is_second c = c.load_first.ensures ∙ sym (as_first c.args.s.now (sym c.is_second.ensures ∙ c.if-is_second.false))
