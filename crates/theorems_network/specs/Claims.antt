-- The claims. Each is proved elsewhere against the type that stands here.
use Rattle.std.specs.Prelude.{ℕ, ◌+◌, ◌*◌, ◌^◌, ◌≤◌, ◌≡◌, true, false, List, [], ◌∷◌, ◌++◌, map, length}
use Rattle.model_base.specs.Lists.{All}
use Rattle.model_sheet.specs.Problem.{Problem, largest_domain, in_range, Obeys}
use Rattle.model_sheet.specs.Sheet.{Valid, decode}
use Rattle.model_agent.specs.Sorts.{IsAddLink, Not, OneLink}
use Rattle.model_agent.specs.Traffic.{Sort, number, raised}
use Rattle.model_network.specs.Network.{Network, start, is_rule}
use Rattle.model_network.specs.Shape.{in_shape}
use Rattle.model_network.specs.Delivery.{deliver}
use Rattle.model_network.specs.Run.{idle, Ending, Unsolvable, Plan, Jammed, Open, Round, allowed, run}
use Rattle.theorems_network.specs.Calls.{
  Call,
  tries_of,
  left_by_all,
  tried_by_all,
  made_by_all,
  replay,
  answers,
  answers_of,
  Stretch,
  lines_of,
  marked_in,
  AllFull,
  ExactlyFull,
  round_stretch,
  Whole,
  DeliveredNothing,
}
use Rattle.theorems_network.specs.Marking.{parts_of_all, own_marking, AllMarkedRightly}
use Rattle.theorems_network.specs.Figures.{sent_from, received_by, BelowTop, total_of, total_sent, total_received, waiting_of, total_waiting}

-- 16 × n × (d + 2)^n
unfoldable pub most_rounds : Problem → ℕ
most_rounds p = 16 * p.count * (largest_domain p + 2) ^ p.count

-- A network reached from the start with nothing waiting and no verdict breaks no ban.
abbrev pub SoundAtRest : ℕ → Problem → Type 0
SoundAtRest rule p =
    (calls : List Call) → (left_by_all calls (start rule p)).unsolvable ≡ false → idle (left_by_all calls (start rule p)) ≡ true
    → Obeys p (λ i. ((left_by_all calls (start rule p)).agents i).value)

-- The verdict comes only where no choice of values obeys all bans.
abbrev pub CompleteVerdict : ℕ → Problem → Type 0
CompleteVerdict rule p = (calls : List Call) → (left_by_all calls (start rule p)).unsolvable ≡ true → (σ : ℕ → ℕ) → Obeys p σ → ⊥

-- Every network reached from the start is in shape.
abbrev pub StaysInShape : ℕ → Problem → Type 0
StaysInShape rule p = (calls : List Call) → in_shape (left_by_all calls (start rule p)) ≡ true

-- "However full rounds are marked off without overlap, with gaps between them or none, they are at most" 16 × n × (d + 2)^n.
abbrev pub RoundBound : ℕ → Problem → Type 0
RoundBound rule p =
    (calls : List Call) (marking : List Stretch) → lines_of marking ≡ tried_by_all calls (start rule p) → AllFull rule p [] marking
    → marked_in marking ≤ most_rounds p

-- "The full rounds of all runs in a list are one way to mark them off": the runs' own rounds, with a delivery by itself as a gap, mark off all that the
-- list tries. Every marked one is full, of the runs' rounds exactly the full ones are marked, and they are as many as the runs return together.
pub record RunsMarked (rule : ℕ) (p : Problem) (calls : List Call) : Type 0 where
  pub lines : lines_of (own_marking calls (start rule p)) ≡ tried_by_all calls (start rule p)
  pub full : AllFull rule p [] (own_marking calls (start rule p))
  pub exact : AllMarkedRightly rule p [] (parts_of_all calls (start rule p))
  pub number : marked_in (own_marking calls (start rule p)) ≡ made_by_all calls (start rule p)

abbrev pub RunsMark : ℕ → Problem → Type 0
RunsMark rule p = (calls : List Call) → RunsMarked rule p calls

-- So the full rounds that all runs of a list return, together, obey the bound too.
abbrev pub RunBound : ℕ → Problem → Type 0
RunBound rule p = (calls : List Call) → made_by_all calls (start rule p) ≤ most_rounds p

-- "Each run returns exactly how many of its rounds were full": a run's own rounds cut up what it tries; it counts a round exactly if it
-- is full at its place in the list, and returns how many it counts.
pub record RunCounts (rule : ℕ) (p : Problem) (calls : List Call) (k : ℕ) : Type 0 where
  pub cuts : lines_of (map round_stretch (run k (left_by_all calls (start rule p))).rounds) ≡ tries_of (run k (left_by_all calls (start rule p))).rounds
  pub exact : ExactlyFull rule p (tried_by_all calls (start rule p)) (map round_stretch (run k (left_by_all calls (start rule p))).rounds)
  pub returned : (run k (left_by_all calls (start rule p))).made ≡ marked_in (map round_stretch (run k (left_by_all calls (start rule p))).rounds)

abbrev pub RunsCount : ℕ → Problem → Type 0
RunsCount rule p = (calls : List Call) (k : ℕ) → RunCounts rule p calls k

-- Delivering a run's tries one by one from the network that it was given leaves the network that it returns, and refuses exactly the tries that
-- it saw refused. Of every network, in shape or not.
pub record Replays (k : ℕ) (w : Network) : Type 0 where
  pub leaves : replay (tries_of (run k w).rounds) w ≡ (run k w).network
  pub refuses : answers (tries_of (run k w).rounds) w ≡ answers_of (run k w).rounds

abbrev pub Replay : Type 0
Replay = (k : ℕ) (w : Network) → Replays k w

-- A link is asked for once: on no network reached from the start, under a verdict or not, does a request wait from an agent already informed, nor
-- do two requests wait on one channel.
abbrev pub AskedOnce : ℕ → Problem → Type 0
AskedOnce rule p =
    (calls : List Call) (x y : ℕ)
    → OneLink ((left_by_all calls (start rule p)).channel y x)
    × (((left_by_all calls (start rule p)).agents x).informs y ≡ true → All (Not IsAddLink) ((left_by_all calls (start rule p)).channel y x))

-- ---- what an answer tells of the problem

-- the slots that the agents hold
unfoldable pub slots_of : Network → ℕ → ℕ
slots_of w i = (w.agents i).value

-- The word, the full rounds and the slots of one answer, where the runs before it returned so many full rounds: `plan` tells that the slots obey all
-- bans, `none` that no choice of slots does, and all full rounds together obey the bound.
pub record Tells (p : Problem) (before : ℕ) (word : Ending) (made : ℕ) (slots : ℕ → ℕ) : Type 0 where
  pub plan : word ≡ Plan → Obeys p slots
  pub none : word ≡ Unsolvable → (σ : ℕ → ℕ) → Obeys p σ → ⊥
  pub few : before + made ≤ most_rounds p

-- of a run, behind any calls
abbrev pub RunTells : ℕ → Problem → Type 0
RunTells rule p =
    (calls : List Call) (k : ℕ)
    → Tells p (made_by_all calls (start rule p)) (run k (left_by_all calls (start rule p))).ending (run k (left_by_all calls (start rule p))).made
    (slots_of (run k (left_by_all calls (start rule p))).network)

-- A network by itself: at rest with no verdict its slots obey all bans, and under a verdict no choice of slots does.
pub record StandsFor (p : Problem) (w : Network) : Type 0 where
  pub rest : w.unsolvable ≡ false → idle w ≡ true → Obeys p (slots_of w)
  pub unsolvable : w.unsolvable ≡ true → (σ : ℕ → ℕ) → Obeys p σ → ⊥

-- of what a delivery leaves, behind any calls
abbrev pub DeliveryTells : ℕ → Problem → Type 0
DeliveryTells rule p = (calls : List Call) (i j : ℕ) → StandsFor p (deliver (left_by_all calls (start rule p)) i j).network

-- ---- figures. docs/RULES.md, 'Figures on every scanner'

-- "while no count has reached the top, each equals the number of messages of its sort that the start and the accepted deliveries sent from that
-- scanner, or handed to it"
abbrev pub CountsExact : ℕ → Problem → Type 0
CountsExact rule p =
    (calls : List Call) → BelowTop p (left_by_all calls (start rule p)) → (i : ℕ) → 1 ≤ i → i ≤ p.count → (x : Sort)
    → (((left_by_all calls (start rule p)).agents i).counts.sent x ≡ number x (sent_from rule p calls i))
    × (((left_by_all calls (start rule p)).agents i).counts.received x ≡ number x (received_by rule p calls i))

-- "is that number, and stays there": whatever the others are, a count is that number, or the top where the number is above it.
abbrev pub CountsCapped : ℕ → Problem → Type 0
CountsCapped rule p =
    (calls : List Call) (i : ℕ) (x : Sort)
    → (((left_by_all calls (start rule p)).agents i).counts.sent x ≡ raised 0 (number x (sent_from rule p calls i)))
    × (((left_by_all calls (start rule p)).agents i).counts.received x ≡ raised 0 (number x (received_by rule p calls i)))

-- "and the total sent, over all scanners, equals the total received plus what waits on all lines"
abbrev pub SentIsReceivedAndWaiting : ℕ → Problem → Type 0
SentIsReceivedAndWaiting rule p =
    (calls : List Call) → BelowTop p (left_by_all calls (start rule p))
    → total_sent p (left_by_all calls (start rule p)) ≡ total_received p (left_by_all calls (start rule p)) + total_waiting p (left_by_all calls (start rule p))

-- .. and so in each sort by itself.
abbrev pub SentIsReceivedAndWaitingOf : ℕ → Problem → Type 0
SentIsReceivedAndWaitingOf rule p =
    (calls : List Call) → BelowTop p (left_by_all calls (start rule p)) → (x : Sort)
    → total_of p (left_by_all calls (start rule p)) (λ c. c.sent x)
    ≡ total_of p (left_by_all calls (start rule p)) (λ c. c.received x) + waiting_of p (left_by_all calls (start rule p)) x

-- ---- of every network and every sheet

-- A count never falls, on forged networks either.
abbrev pub CountsNeverFall : Type 0
CountsNeverFall =
    (w : Network) (calls : List Call) (i : ℕ) (x : Sort)
    → ((w.agents i).counts.sent x ≤ ((left_by_all calls w).agents i).counts.sent x)
    × ((w.agents i).counts.received x ≤ ((left_by_all calls w).agents i).counts.received x)

-- A network in shape stays in shape, forged ones too.
abbrev pub DeliverKeeps : Type 0
DeliverKeeps = (w : Network) (i j : ℕ) → in_shape w ≡ true → in_shape (deliver w i j).network ≡ true

abbrev pub RunKeeps : Type 0
RunKeeps = (k : ℕ) (w : Network) → in_shape w ≡ true → in_shape (run k w).network ≡ true

-- ---- the word of a run, on every network, forged ones too

-- The last round that a run made was whole, it delivered nothing, and something waits.
pub record StoodStill (k : ℕ) (w : Network) : Type 0 where
  pub before : List Round
  pub last : Round
  pub rounds : (run k w).rounds ≡ before ++ (last ∷ [])
  pub whole : Whole (replay (tries_of before) w) last
  pub nothing : DeliveredNothing last
  pub waits : idle (run k w).network ≡ false

-- "`jammed` where a whole round delivered nothing while something waits"
abbrev pub JammedExactly : Type 0
JammedExactly =
    (k : ℕ) (w : Network) → ((run k w).ending ≡ Jammed → StoodStill k w) × (StoodStill k w → (run k w).ending ≡ Jammed)

-- .. and at once: no round comes after one that delivered nothing.
abbrev pub NoneAfterNothing : Type 0
NoneAfterNothing =
    (k : ℕ) (w : Network) (before : List Round) (r next : Round) (others : List Round)
    → (run k w).rounds ≡ before ++ (r ∷ next ∷ others) → DeliveredNothing r → ⊥

-- "Each visit of all lines uses one of the allowed rounds": a run makes no more rounds than it may use, full or not, and one that ends `open` has
-- used them all.
pub record UsesRounds (k : ℕ) (w : Network) : Type 0 where
  pub most : length (run k w).rounds ≤ allowed k
  pub all : (run k w).ending ≡ Open → length (run k w).rounds ≡ allowed k

abbrev pub RoundsUsed : Type 0
RoundsUsed = (k : ℕ) (w : Network) → UsesRounds k w

-- "No delivery and no run changes the rule.", on forged networks either.
abbrev pub RuleKept : Type 0
RuleKept = (w : Network) (calls : List Call) → (left_by_all calls w).rule ≡ w.rule

-- ---- for which rules and problems

-- either rule, and every problem in range
abbrev pub EveryProblem : (ℕ → Problem → Type 0) → Type 0
EveryProblem C = (rule : ℕ) → is_rule rule ≡ true → (p : Problem) → in_range p ≡ true → C rule p

-- either rule, and every sheet that the start accepts
abbrev pub EverySheet : (ℕ → Problem → Type 0) → Type 0
EverySheet C = (rule : ℕ) → is_rule rule ≡ true → (sheet : List ℕ) (p : Problem) → decode sheet ≡ Valid p → C rule p
