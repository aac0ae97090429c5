-- What a task comes to on a network: a delivery is the definitions' delivery, and a run, where the network is in shape, their rounds.
use Rattle.std.specs.Prelude.{ℕ, true, false, []}
use Rattle.model_network.specs.Network.{Network}
use Rattle.model_network.specs.Shape.{in_shape}
use Rattle.model_network.specs.Delivery.{BadShape, rejection_number, deliver}
use Rattle.model_network.specs.Run.{run_from}
use Rattle.abt_engine.specs.Working.{Worked, stopped_with, delivered_as, ran_as}
use Rattle.abt_engine.specs.declared.Task.{Task}
use Rattle.abt_engine.specs.declared.Task.TheVariants.{Deliver, Run}

-- so many rounds may be made
unfoldable pub allowed_of : Task → ℕ
allowed_of (Deliver i j) = 0
allowed_of (Run allowed) = allowed

unfoldable pub work_by : Task → Network → Worked
work_by (Deliver i j) w = delivered_as (deliver w i j)
work_by (Run allowed) w =
    elim (in_shape w) [ true ↦ ran_as (run_from allowed 0 [] w) | false ↦ stopped_with w (rejection_number BadShape) ]
