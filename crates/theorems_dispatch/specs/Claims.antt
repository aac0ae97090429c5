-- The claims. Each is proved elsewhere against the type that stands here.
use Rattle.std.specs.Prelude.{ℕ, ◌≤◌, ◌≡◌, true, false, List, []}
use Rattle.model_sheet.specs.Problem.{Problem, Obeys}
use Rattle.model_network.specs.Network.{Network, start}
use Rattle.model_network.specs.Shape.{in_shape}
use Rattle.model_network.specs.Run.{Line, idle}
use Rattle.theorems_network.specs.Calls.{left_by_all, tried_by_all, made_by_all, Stretch, lines_of, marked_in, AllFull}
use Rattle.theorems_network.specs.Claims.{most_rounds}
use Rattle.model_dispatch.specs.Dispatch.{Dispatcher}
use Rattle.theorems_dispatch.specs.Steps.{Step, left_by_steps, calls_in}

-- "Whatever is claimed of a list of calls is claimed of a list with picks in it": the network that it leaves is that of the calls it comes to. By every
-- dispatcher, whatever its count, its place and its network, forged ones too.
abbrev pub PicksAreCalls : Type 0
PicksAreCalls = (d : Dispatcher) (steps : List Step) → (left_by_steps steps d).network ≡ left_by_all (calls_in steps d) d.network

-- a dispatcher above the network that the start gives, with any count and any place
unfoldable pub above : Network → ℕ → Line → Dispatcher
above w picks place = record { network = w; picks = picks; place = place }

-- ---- so what is claimed of lists of calls holds of lists of picks, deliveries and runs together

-- A network reached from the start with nothing waiting and no verdict breaks no ban.
abbrev pub SoundWithPicks : ℕ → Problem → Type 0
SoundWithPicks rule p =
    (picks : ℕ) (place : Line) (steps : List Step) → (left_by_steps steps (above (start rule p) picks place)).network.unsolvable ≡ false
    → idle (left_by_steps steps (above (start rule p) picks place)).network ≡ true
    → Obeys p (λ i. ((left_by_steps steps (above (start rule p) picks place)).network.agents i).value)

-- The verdict comes only where no choice of values obeys all bans.
abbrev pub CompleteWithPicks : ℕ → Problem → Type 0
CompleteWithPicks rule p =
    (picks : ℕ) (place : Line) (steps : List Step) → (left_by_steps steps (above (start rule p) picks place)).network.unsolvable ≡ true
    → (σ : ℕ → ℕ) → Obeys p σ → ⊥

-- every network reached is in shape
abbrev pub InShapeWithPicks : ℕ → Problem → Type 0
InShapeWithPicks rule p =
    (picks : ℕ) (place : Line) (steps : List Step) → in_shape (left_by_steps steps (above (start rule p) picks place)).network ≡ true

-- However the deliveries of the list, those that picks made among them, are marked off into rounds without overlap, the full ones are at most
-- 16 × n × (d + 2)^n; so are those that its runs return together.
abbrev pub RoundBoundWithPicks : ℕ → Problem → Type 0
RoundBoundWithPicks rule p =
    (picks : ℕ) (place : Line) (steps : List Step) (marking : List Stretch)
    → lines_of marking ≡ tried_by_all (calls_in steps (above (start rule p) picks place)) (start rule p) → AllFull rule p [] marking
    → marked_in marking ≤ most_rounds p

abbrev pub RunBoundWithPicks : ℕ → Problem → Type 0
RunBoundWithPicks rule p =
    (picks : ℕ) (place : Line) (steps : List Step)
    → made_by_all (calls_in steps (above (start rule p) picks place)) (start rule p) ≤ most_rounds p
