-- All are at most i - 1.
use Rattle.std.proofs.Common.{sym, ◌∙◌}
use Rattle.abt_shape.proofs.Clauses.{upward}
use Rattle.abt_shape.proofs.agents.listens_upward.Goals as goal

pub returns : goal.returns
returns c =
    let args = c.args in
    λ w e. c.all_to.ensures ∙ sym (upward w args.i args.listens c.requires e)
