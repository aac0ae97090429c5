-- `view_listened` is the clause on an agent's view.
-- The values against the domains, and the agents named against those listened to.
use Rattle.std.proofs.Common.{sym, ◌∙◌, arith}
use Rattle.abt_agent.specs.Abstract.{assigned}
use Rattle.abt_shape.proofs.Clauses.{view-is, names_in}
use Rattle.abt_shape.proofs.agents.view_listened.Goals as goal

pub returns-then-at_most : goal.returns-then-at_most
unfolding assigned
returns-then-at_most c =
    λ w i o e f.
    sym (view-is w i c.args.domains c.args.listens c.args.view.digits o e f
    ∙ rw (← c.at_most.ensures, c.if-at_most.true) (names_in c.args.view.digits c.names.result c.args.listens c.names.ensures (omega arith) (omega arith)))

pub returns-else-at_most : goal.returns-else-at_most
unfolding assigned
returns-else-at_most c = λ w i o e f. c.if-at_most.false ∙ sym (view-is w i c.args.domains c.args.listens c.args.view.digits o e f ∙ rw (← c.at_most.ensures, c.if-at_most.false))
