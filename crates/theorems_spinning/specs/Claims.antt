-- The claims. Each is proved elsewhere against the type that stands here.
use Rattle.std.specs.Prelude.{ℕ, ◌≡◌, List, ◌++◌, length}
use Rattle.model_base.specs.Lists.{All}
use Rattle.model_sheet.specs.Sheet.{Valid, decode}
use Rattle.model_network.specs.Network.{start}
use Rattle.model_network.specs.Delivery.{Accepted}
use Rattle.model_network.specs.Run.{Line}
use Rattle.theorems_network.specs.Calls.{answers, FullRound}
use Rattle.theorems_network.specs.Claims.{most_rounds}
use Rattle.theorems_spinning.specs.Spinning.{sheet_spinning, three, spinning}
use Rattle.theorems_spinning.specs.Misread.{DeliveriesBounded}

-- the problem is that of a good sheet
abbrev pub OfASheet : Type 0
OfASheet = decode sheet_spinning ≡ Valid three

-- However many turns the list has, each of its deliveries is accepted ..
abbrev pub AllAccepted : Type 0
AllAccepted = (k : ℕ) → All (λ a. a ≡ Accepted) (answers (spinning k) (start 1 three))

-- .. and no stretch of it is a full round.
abbrev pub NoFullRound : Type 0
NoFullRound = (k : ℕ) (before stretch after : List Line) → before ++ stretch ++ after ≡ spinning k → FullRound 1 three before stretch → ⊥

-- So its accepted deliveries pass the bound on full rounds: that is 3,072 for this sheet, and 1,536 turns have 3,073.
abbrev pub PassesTheBound : Type 0
PassesTheBound = (most_rounds three ≡ 3072) × (length (spinning 1536) ≡ 3073)

-- The bound misread, of accepted deliveries in place of full rounds (`DeliveriesBounded`), is false.
abbrev pub DeliveriesUnbounded : Type 0
DeliveriesUnbounded = DeliveriesBounded → ⊥
