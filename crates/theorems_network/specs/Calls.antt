-- Lists of calls, what they try, and the full rounds marked off in it. docs/RULES.md, 'Rounds and the run': "A list of calls ..".
use Rattle.std.specs.Prelude.{ℕ, ◌+◌, ◌≤◌, ◌≡◌, Bool, true, false, ◌&&◌, ◌⊎◌, List, [], ◌∷◌, ◌++◌, map, length, drop, eqb}
use Rattle.model_base.specs.Finite.{any}
use Rattle.model_base.specs.Lists.{All}
use Rattle.model_sheet.specs.Problem.{Problem}
use Rattle.model_agent.specs.Message.{Message, sent_to}
use Rattle.model_network.specs.Network.{Network, start}
use Rattle.model_network.specs.Delivery.{Answer, is_accepted, Delivery, numbers_good, deliver}
use Rattle.model_network.specs.Run.{Line, is_line, Try, passed_by, Round, one_if, run}

-- ---- calls

pub data Call : Type 0 where
  Deliver : ℕ → ℕ → Call  -- of the line from one agent to another, any two numbers
  Run : ℕ → Call  -- with a number of rounds that it may use

unfoldable pub line_of : Try → Line
line_of t = t.line

-- what a run tried, round by round
unfoldable pub tries_of : List Round → List Line
tries_of [] = []
tries_of (r ∷ rs) = map line_of r.tried ++ tries_of rs

-- what the run saw answered
unfoldable pub answer_of : Try → Answer
answer_of t = t.answer

unfoldable pub answers_of : List Round → List Answer
answers_of [] = []
answers_of (r ∷ rs) = map answer_of r.tried ++ answers_of rs

-- "A run stands in the list for the deliveries that it tries, in its order."
unfoldable pub tried_by : Call → Network → List Line
tried_by (Deliver i j) w = record { from = i; to = j } ∷ []
tried_by (Run k) w = tries_of (run k w).rounds

-- the network that a call leaves
unfoldable pub left_by : Call → Network → Network
left_by (Deliver i j) w = (deliver w i j).network
left_by (Run k) w = (run k w).network

-- the full rounds that a call returns
unfoldable pub made_by : Call → Network → ℕ
made_by (Deliver i j) w = 0
made_by (Run k) w = (run k w).made

-- "each call takes the rail that the one before left"
unfoldable pub left_by_all : List Call → Network → Network
left_by_all [] w = w
left_by_all (c ∷ cs) w = left_by_all cs (left_by c w)

unfoldable pub tried_by_all : List Call → Network → List Line
tried_by_all [] w = []
tried_by_all (c ∷ cs) w = tried_by c w ++ tried_by_all cs (left_by c w)

unfoldable pub made_by_all : List Call → Network → ℕ
made_by_all [] w = 0
made_by_all (c ∷ cs) w = made_by c w + made_by_all cs (left_by c w)

-- ---- deliveries one by one

unfoldable pub attempt_of : Line → Network → Delivery
attempt_of l w = deliver w l.from l.to

unfoldable pub replay : List Line → Network → Network
replay [] w = w
replay (l ∷ ls) w = replay ls (attempt_of l w).network

unfoldable pub answers : List Line → Network → List Answer
answers [] w = []
answers (l ∷ ls) w = (attempt_of l w).answer ∷ answers ls (attempt_of l w).network

-- ---- what waits at a place of the list

-- accepted deliveries of the line from i to j
unfoldable pub accepted_now : ℕ → ℕ → Line → Network → ℕ
accepted_now i j l w = one_if (is_accepted (attempt_of l w).answer && is_line i j l)

unfoldable pub accepted_on : ℕ → ℕ → List Line → Network → ℕ
accepted_on i j [] w = 0
accepted_on i j (l ∷ ls) w = accepted_now i j l w + accepted_on i j ls (attempt_of l w).network

-- what the rules send on the line from i to j at accepted deliveries
unfoldable pub sent_now : ℕ → ℕ → Line → Network → List Message
sent_now i j l w = elim (eqb i l.to) [ true ↦ sent_to j (attempt_of l w).sent | false ↦ [] ]

unfoldable pub sent_on : ℕ → ℕ → List Line → Network → List Message
sent_on i j [] w = []
sent_on i j (l ∷ ls) w = sent_now i j l w ++ sent_on i j ls (attempt_of l w).network

-- "What waits on a line at some place of the list is what these rules send on it at the start and at the deliveries accepted so far, less the
-- accepted deliveries of that line."
unfoldable pub waits_after : ℕ → Problem → List Line → ℕ → ℕ → List Message
waits_after rule p before i j =
    drop (accepted_on i j before (start rule p)) ((start rule p).channel i j ++ sent_on i j before (start rule p))

-- ---- full rounds

-- A stretch of the list, behind what was tried before it, is a full round: "something waits at its start and every line has at least as many
-- accepted deliveries in the stretch as messages waited there".
pub record FullRound (rule : ℕ) (p : Problem) (before stretch : List Line) : Type 0 where
  pub waits : (i : ℕ) × (j : ℕ) × (1 ≤ length (waits_after rule p before i j))
  pub delivers : (i j : ℕ) → length (waits_after rule p before i j) ≤ accepted_on i j stretch (replay before (start rule p))

-- A marking: the list cut into stretches, some of them marked as rounds, the others gaps.
pub record Stretch : Type 0 where
  pub lines : List Line
  pub marked : Bool

unfoldable pub lines_of : List Stretch → List Line
lines_of [] = []
lines_of (s ∷ ss) = s.lines ++ lines_of ss

unfoldable pub marked_in : List Stretch → ℕ
marked_in [] = 0
marked_in (s ∷ ss) = one_if s.marked + marked_in ss

-- every stretch that is marked is a full round at its place
abbrev pub AllFull : ℕ → Problem → List Line → List Stretch → Type 0
AllFull rule p before [] = Unit {0}
AllFull rule p before (s ∷ ss) = (s.marked ≡ true → FullRound rule p before s.lines) × AllFull rule p (before ++ s.lines) ss

-- every stretch is marked exactly if it is a full round at its place
abbrev pub ExactlyFull : ℕ → Problem → List Line → List Stretch → Type 0
ExactlyFull rule p before [] = Unit {0}
ExactlyFull rule p before (s ∷ ss) =
    (s.marked ≡ true → FullRound rule p before s.lines)
    × (FullRound rule p before s.lines → s.marked ≡ true)
    × ExactlyFull rule p (before ++ s.lines) ss

-- a run's own rounds: "those in which it visits the lines"
unfoldable pub round_stretch : Round → Stretch
round_stretch r = record { lines = map line_of r.tried; marked = r.full }

-- ---- a run's round that stood still

-- In a round from w the line from i to j was visited until all that it held when the round began was delivered, or until it was refused with 10.
abbrev pub VisitedThrough : Network → Round → ℕ → ℕ → Type 0
VisitedThrough w r i j =
    (length (w.channel i j) ≤ accepted_on i j (map line_of r.tried) w)
    ⊎ (any (passed_by (record { from = i; to = j })) r.tried ≡ true)

-- the round was whole: every line was
abbrev pub Whole : Network → Round → Type 0
Whole w r = (i j : ℕ) → numbers_good w i j ≡ true → VisitedThrough w r i j

-- it delivered nothing
abbrev pub DeliveredNothing : Round → Type 0
DeliveredNothing r = All (λ t. is_accepted t.answer ≡ false) r.tried
