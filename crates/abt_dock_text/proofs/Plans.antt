-- A run out of shape is refused, and ends in no plan; one in shape keeps it.
use Rattle.std.proofs.Common.{◌≡◌, ℕ, ◌≤◌, arith}
use Rattle.model_base.proofs.Tests.{test}
use Rattle.model_sheet.specs.Problem.{max_agents}
use Rattle.model_network.specs.Network.{Network}
use Rattle.model_network.specs.Shape.{in_shape}
use Rattle.model_network.specs.Run.{Plan, Broken, run}
use Rattle.theorems_shape.proofs.ShapeClauses.{shaped}
use Rattle.theorems_shape.proofs.Shape.{run-keeps}

-- a run that ends in a plan was not refused, and leaves at most twelve agents
pub plan-counted : (rounds : ℕ) (w : Network) → (run rounds w).ending ≡ Plan → (run rounds w).network.problem.count ≤ 12
unfolding run max_agents
plan-counted rounds w e =
    test (in_shape w)
    (λ t. (shaped (run rounds w).network (run-keeps rounds w t)).range.high)
    (λ t. let b : (run rounds w).ending ≡ Broken = rw (t, run) in let z : ◌≡◌ {A = ℕ} 0 1 = cc in absurd (omega arith))
