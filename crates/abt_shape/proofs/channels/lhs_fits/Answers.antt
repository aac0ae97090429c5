-- `lhs_fits` is the clause on a refusal's left side.
-- Its values against the domains of the agents above the receiver.
use Rattle.std.proofs.Common.{◌*◌, ◌-◌, sym, ◌∙◌, one-mul, arith, shl_exact}
use Rattle.abt_agent.specs.Abstract.{assigned}
use Rattle.abt_shape.proofs.Clauses.{lhs-is}
use Rattle.abt_shape.proofs.channels.lhs_fits.Goals as goal

pub returns : goal.returns
unfolding assigned
returns c =
    λ p o.
    c.at_most.ensures
    ∙ rw (shl_exact {a = 1} 1 (4 * (c.args.j - 1)) 64 (omega arith) (omega arith), one-mul)
    (sym (lhs-is p c.args.j c.args.domains c.args.lhs.digits c.requires.0 o))
