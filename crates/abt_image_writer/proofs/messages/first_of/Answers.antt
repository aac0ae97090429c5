-- `first_of` gives the number of the first message of any list of so many.
use Rattle.std.proofs.Common.{sym, ◌∙◌}
use Rattle.abt_image_writer.proofs.Chains.{none_after, some_after}
use Rattle.abt_image_writer.proofs.messages.first_of.Goals as goal

pub returns-then-count-eq0 : goal.returns-then-count-eq0
returns-then-count-eq0 c = λ l e. none_after c.args.before l (e ∙ c.if-count-eq0.true)

pub returns-else-count-eq0 : goal.returns-else-count-eq0
returns-else-count-eq0 c = λ l e. some_after c.args.before l (λ z. c.if-count-eq0.false (sym e ∙ z))
