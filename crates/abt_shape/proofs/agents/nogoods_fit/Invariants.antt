-- `nogoods_fit` is the clause on an agent's nogoods.
-- From value 8 down. The invariant: what is asked of all values is asked of those left.
use Rattle.std.proofs.Common.{ℕ, ◌-◌, ◌≡◌, Bool}
use Rattle.model_base.specs.Finite.{all_to}
use Rattle.abt_agent.specs.declared.Agent.{Agent}
use Rattle.abt_shape.proofs.Clauses.{stored_fits}
use Rattle.abt_shape.proofs.agents.nogoods_fit.Given as goal

abbrev pub fits_at : ℕ → Agent → ℕ → Bool
fits_at d a v = stored_fits d a (v - 1)

abbrev pub invariant-loop-v : goal.invariant-loop-v
invariant-loop-v l = all_to 8 (fits_at l.d l.a) ≡ all_to l.v (fits_at l.d l.a)
