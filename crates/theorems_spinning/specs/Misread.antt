-- The bound misread, of accepted deliveries in place of full rounds. It is false (`DeliveriesUnbounded`).
use Rattle.std.specs.Prelude.{ℕ, ◌≤◌, ◌≡◌, true, List, length}
use Rattle.model_base.specs.Lists.{All}
use Rattle.model_sheet.specs.Problem.{Problem, in_range}
use Rattle.model_network.specs.Network.{start, is_rule}
use Rattle.model_network.specs.Delivery.{Accepted}
use Rattle.model_network.specs.Run.{Line}
use Rattle.theorems_network.specs.Calls.{answers}
use Rattle.theorems_network.specs.Claims.{most_rounds}

abbrev pub DeliveriesBounded : Type 0
DeliveriesBounded =
    (rule : ℕ) → is_rule rule ≡ true → (p : Problem) → in_range p ≡ true → (lines : List Line)
    → All (λ a. a ≡ Accepted) (answers lines (start rule p)) → length lines ≤ most_rounds p
