-- The claims about the dispatcher. Each is proved elsewhere against the type that stands here.
use Rattle.std.specs.Prelude.{ℕ, ◌+◌, ◌*◌, ◌-◌, ◌≤◌, ◌≡◌, true, List, [], ◌∷◌, ◌++◌, length, None, Option, Some}
use Rattle.model_base.specs.Lists.{Any}
use Rattle.model_agent.specs.Traffic.{top, raised}
use Rattle.model_agent.specs.Message.{Message}
use Rattle.model_network.specs.Delivery.{numbers_good, deliver}
use Rattle.model_network.specs.Run.{Line}
use Rattle.model_dispatch.specs.Dispatch.{Dispatcher, deliverable, Pick, pick}

-- ---- lists of picks: "each pick taking the state the one before left"

unfoldable pub picks_by : List Line → Dispatcher → List Pick
picks_by [] d = []
picks_by (wish ∷ wishes) d = pick d wish ∷ picks_by wishes (pick d wish).state

unfoldable pub left_by_picks : List Line → Dispatcher → Dispatcher
left_by_picks [] d = d
left_by_picks (wish ∷ wishes) d = left_by_picks wishes (pick d wish).state

-- the pick served line l
abbrev pub Serves : Line → Pick → Type 0
Serves l p = p.served ≡ Some l

-- line l can be delivered before each of the picks, until one serves it
abbrev pub StaysDeliverable : Line → List Line → Dispatcher → Type 0
StaysDeliverable l [] d = Unit {0}
StaysDeliverable l (wish ∷ wishes) d =
    (deliverable d.network l ≡ true) × ((Serves l (pick d wish) → ⊥) → StaysDeliverable l wishes (pick d wish).state)

-- "The head of a line that stays deliverable is served within 2 × n × (n - 1) picks, however the host chooses": by every dispatcher, whatever its
-- count, its place and its network, forged ones too, and for every line of the network
abbrev pub ServedInTime : Type 0
ServedInTime =
    (d : Dispatcher) (l : Line) (wishes : List Line)
    → numbers_good d.network l.from l.to ≡ true
    → length wishes ≡ 2 * d.network.problem.count * (d.network.problem.count - 1)
    → StaysDeliverable l wishes d → Any (Serves l) (picks_by wishes d)

-- .. and it is the head of that time that is served: a pick that does not serve the line leaves what waits there, in front of what it sends there
abbrev pub HeadsStay : Type 0
HeadsStay =
    (d : Dispatcher) (wish l : Line) → (Serves l (pick d wish) → ⊥)
    → (sent : List Message) × ((pick d wish).state.network.channel l.from l.to ≡ d.network.channel l.from l.to ++ sent)

-- the deliveries that picks made
unfoldable pub one_if_some : Option Line → ℕ
one_if_some None = 0
one_if_some (Some l) = 1

unfoldable pub deliveries_in : List Pick → ℕ
deliveries_in [] = 0
deliveries_in (p ∷ ps) = one_if_some p.served + deliveries_in ps

-- "Its 64-bit count of picks .. equals the deliveries it made; at its top it stays"
abbrev pub PicksCounted : Type 0
PicksCounted =
    (d : Dispatcher) (wishes : List Line) → d.picks ≤ top
    → (left_by_picks wishes d).picks ≡ raised d.picks (deliveries_in (picks_by wishes d))

-- A pick that serves a line is the delivery on that line, and accepted; one that serves none changes nothing.
pub record IsDelivery (d : Dispatcher) (wish : Line) : Type 0 where
  pub served : (l : Line) → (pick d wish).served ≡ Some l
      → ((pick d wish).state.network ≡ (deliver d.network l.from l.to).network) × (deliverable d.network l ≡ true)
  pub refused : (pick d wish).served ≡ None → (pick d wish).state ≡ d

abbrev pub PicksDeliver : Type 0
PicksDeliver = (d : Dispatcher) (wish : Line) → IsDelivery d wish
