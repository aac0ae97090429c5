-- What is claimed of every list of calls: from the start of a sheet by a rule, through all calls made since. docs/RULES.md, 'Rounds and the run', 'The
-- dispatcher', 'Figures on every scanner' and 'Two tenants on one rail'.
use Rattle.std.specs.Prelude.{ℕ, ◌+◌, ◌≤◌, ◌≡◌, true, false, List, [], ◌++◌}
use Rattle.model_base.specs.Lists.{All}
use Rattle.model_sheet.specs.Problem.{Problem, Obeys}
use Rattle.model_sheet.specs.Sheet.{Valid, decode}
use Rattle.model_agent.specs.Sorts.{IsAddLink, Not, OneLink}
use Rattle.model_agent.specs.Traffic.{Sort, number, raised}
use Rattle.model_network.specs.Network.{Network, start, is_rule, start_sheet}
use Rattle.model_network.specs.Shape.{in_shape}
use Rattle.model_network.specs.Run.{Line, idle}
use Rattle.theorems_network.specs.Calls.{Call, tried_by_all, made_by_all, Stretch, lines_of, marked_in, AllFull}
use Rattle.theorems_network.specs.Claims.{most_rounds, RunCounts}
use Rattle.theorems_network.specs.Deeds.{handed_in, posts_in}
use Rattle.theorems_network.specs.Figures.{
  sent_from,
  received_by,
  BelowTop,
  total_of,
  total_sent,
  total_received,
  waiting_of,
  total_waiting,
}
use Rattle.theorems_isolation.specs.Tenants.{Alike}
use Rattle.model_dispatch.specs.Dispatch.{Dispatcher, dispatcher}
use Rattle.theorems_dispatch.specs.Steps.{Step, left_by_steps, calls_in}
use Rattle.theorems_dispatch.specs.Claims.{above}
use Rattle.abt_calls.specs.Outcomes.{came_by_all, rounds_in}

-- ---- histories

-- A start, and the steps made since: a rule, a sheet and the problem that it says; the dispatcher's count and place at the start, any.
pub record History : Type 0 where
  pub rule : ℕ
  pub sheet : List ℕ
  pub problem : Problem
  pub picks : ℕ
  pub place : Line
  pub steps : List Step

-- the network at the start, and the dispatcher above it
abbrev pub started : History → Network
started h = start h.rule h.problem

abbrev pub begun : History → Dispatcher
begun h = above (started h) h.picks h.place

-- the start alone, with a dispatcher that was begun above it
abbrev pub fresh : ℕ → List ℕ → Problem → History
fresh rule sheet p = record { rule = rule; sheet = sheet; problem = p; picks = 0; place = record { from = 0; to = 0 }; steps = [] }

-- more steps, behind those made
abbrev pub followed_by : History → List Step → History
followed_by h more =
    record { rule = h.rule; sheet = h.sheet; problem = h.problem; picks = h.picks; place = h.place; steps = h.steps ++ more }

-- all that was called: its deliveries and runs, and the delivery that each pick made
abbrev pub called : History → List Call
called h = calls_in h.steps (begun h)

-- The history led to the state d: the start accepts the rule and the sheet, and the steps leave d.
pub record Reached (h : History) (d : Dispatcher) : Type 0 where
  pub rule : is_rule h.rule ≡ true
  pub sheet : decode h.sheet ≡ Valid h.problem
  pub left : left_by_steps h.steps (begun h) ≡ d

-- ---- what is promised of the network w to which a history led

pub record Promised (h : History) (w : Network) : Type 0 where
  -- a rail with nothing waiting and no verdict breaks no ban
  pub sound : w.unsolvable ≡ false → idle w ≡ true → Obeys h.problem (λ i. (w.agents i).value)
  -- the verdict stands only where no choice of values obeys all bans
  pub complete : w.unsolvable ≡ true → (σ : ℕ → ℕ) → Obeys h.problem σ → ⊥
  -- the rail is in shape
  pub shape : in_shape w ≡ true
  -- however all that was tried is marked off into full rounds without overlap, they are at most 16 × n × (d + 2)^n
  pub bounded : (marking : List Stretch) → lines_of marking ≡ tried_by_all (called h) (started h) → AllFull h.rule h.problem [] marking
      → marked_in marking ≤ most_rounds h.problem
  -- and so are those that all runs return together, and those of which the callers are told
  pub returned : made_by_all (called h) (started h) ≤ most_rounds h.problem
  pub told : rounds_in (came_by_all h.steps (begun h)) ≤ most_rounds h.problem
  -- a run that is made next counts exactly those of its rounds that are full at their place, behind all that was tried
  pub exact : (k : ℕ) → RunCounts h.rule h.problem (called h) k
  -- each count is the number of messages of its sort that the start and the accepted deliveries sent from that agent, or handed to it; or the top, where
  -- the number is above it
  pub sent : (i : ℕ) (x : Sort) → (w.agents i).counts.sent x ≡ raised 0 (number x (sent_from h.rule h.problem (called h) i))
  pub received : (i : ℕ) (x : Sort) → (w.agents i).counts.received x ≡ raised 0 (number x (received_by h.rule h.problem (called h) i))
  -- while no count is at the top, what was sent was received or waits: all together, and each sort by itself
  pub balanced : BelowTop h.problem w → total_sent h.problem w ≡ total_received h.problem w + total_waiting h.problem w
  pub balanced_of : BelowTop h.problem w → (x : Sort)
      → total_of h.problem w (λ c. c.sent x) ≡ total_of h.problem w (λ c. c.received x) + waiting_of h.problem w x
  -- a link is asked for once: no two requests wait on one line, and none waits from an agent that is already informed
  pub one_request : (x y : ℕ) → OneLink (w.channel y x)
  pub none_from_informed : (x y : ℕ) → (w.agents x).informs y ≡ true → All (Not IsAddLink) (w.channel y x)

-- So of every sheet that the start accepts by a rule, with a dispatcher begun above what the start gives: d. The steps from there leave w.
abbrev pub PromisedFromStart : Dispatcher → List Step → Network → Type 0
PromisedFromStart d steps w =
    (rule : ℕ) (sheet : List ℕ) → (start_sheet rule sheet).number ≡ 0 → dispatcher (start_sheet rule sheet).network ≡ d
    → (p : Problem) × (decode sheet ≡ Valid p) × Promised (followed_by (fresh rule sheet p) steps) w

-- ---- two tenants

-- Agent j on two rails, of which one is left with the network w by these steps from d, the other by other steps from e. Where the steps hand j the same
-- messages, from the same senders in the same order, j is left with the same record and has sent the same.
pub record ActsTheSame (j : ℕ) (d : Dispatcher) (steps : List Step) (w : Network) (e : Dispatcher) (others : List Step) : Type 0 where
  pub agent : w.agents j ≡ (left_by_steps others e).network.agents j
  pub sent : posts_in j (calls_in steps d) d.network ≡ posts_in j (calls_in others e) e.network

-- .. so for every agent, every other state whose network is alike in that agent, forged ones too, and every other list of steps
abbrev pub ActsAlike : (ℕ → ℕ → ℕ → Type 0) → Dispatcher → List Step → Network → Type 0
ActsAlike Names d steps w =
    (j : ℕ) (e : Dispatcher) → Alike Names j d.network e.network → (others : List Step)
    → handed_in j (calls_in steps d) d.network ≡ handed_in j (calls_in others e) e.network
    → ActsTheSame j d steps w e others
