-- Rounds and the run. docs/RULES.md, 'Rounds and the run'.
use Rattle.std.specs.Prelude.{ℕ, zero, suc, ◌+◌, Bool, true, false, ◌&&◌, ◌||◌, List, [], ◌∷◌, ◌++◌, length, replicate, eqb, leb}
use Rattle.model_base.specs.Finite.{all_to, any, gather}
use Rattle.model_agent.specs.Message.{Message}
use Rattle.model_network.specs.Network.{Network}
use Rattle.model_network.specs.Shape.{in_shape}
use Rattle.model_network.specs.Delivery.{BadShape, NoRoom, rejection_number, Answer, Accepted, Rejected, Delivery, deliver}

-- a channel (line), by its ends
pub record Line : Type 0 where
  pub from : ℕ
  pub to : ℕ

-- the line is the one from i to j
unfoldable pub is_line : ℕ → ℕ → Line → Bool
is_line i j l = eqb i l.from && eqb j l.to

-- a delivery tried on a line, and what it was answered
pub record Try : Type 0 where
  pub line : Line
  pub answer : Answer

-- ---- what waits

unfoldable pub is_empty : List Message → Bool
is_empty [] = true
is_empty (m ∷ ms) = false

-- nothing waits
unfoldable pub idle : Network → Bool
idle w = all_to w.problem.count (λ i. all_to w.problem.count (λ j. is_empty (w.channel i j)))

-- "it visits the lines by sender, then receiver, upward, and delivers as many messages of a line as the line held when the round began": the lines,
-- each as often as it holds a message
unfoldable pub visits : Network → List Line
visits w =
    gather w.problem.count 1 (λ i. gather w.problem.count 1 (λ j.
    replicate (length (w.channel i j)) (record { from = i; to = j })))

-- ---- one round

-- a round on its way
pub record Sweep : Type 0 where
  pub network : Network
  pub delivered : ℕ  -- accepted deliveries
  pub tried : List Try  -- in order

unfoldable pub begin_round : Network → Sweep
begin_round w = record { network = w; delivered = 0; tried = [] }

-- "A verdict stops the run at once"
unfoldable pub stopped : Sweep → Bool
stopped s = s.network.unsolvable

-- a 10
unfoldable pub is_no_room : Answer → Bool
is_no_room Accepted = false
is_no_room (Rejected r) = eqb (rejection_number r) (rejection_number NoRoom)

-- the try was on that line, and met a 10
unfoldable pub passed_by : Line → Try → Bool
passed_by l t = is_line l.from l.to t.line && is_no_room t.answer

-- "A line that is refused with 10 is passed over for the rest of that round"
unfoldable pub passed_over : Sweep → Line → Bool
passed_over s l = any (passed_by l) s.tried

unfoldable pub counts : Answer → ℕ
counts Accepted = 1
counts (Rejected r) = 0

-- the round with one more delivery tried
unfoldable pub tally : Sweep → Line → Delivery → Sweep
tally s l d =
    record {
      network = d.network;
      delivered = s.delivered + counts d.answer;
      tried = s.tried ++ (record { line = l; answer = d.answer } ∷ []);
    }

-- the visit does nothing
unfoldable pub skipped : Sweep → Line → Bool
skipped s l = stopped s || passed_over s l

unfoldable pub attempt : Sweep → Line → Sweep
attempt s l = elim (skipped s l) [ true ↦ s | false ↦ tally s l (deliver s.network l.from l.to) ]

unfoldable pub sweep : Sweep → List Line → Sweep
sweep s [] = s
sweep s (l ∷ ls) = sweep (attempt s l) ls

unfoldable pub round : Network → Sweep
round w = sweep (begin_round w) (visits w)

-- "The returned count holds only rounds that delivered all that waited at their start"
unfoldable pub is_full : Network → Sweep → Bool
is_full w s = eqb s.delivered (length (visits w))

-- ---- the run

-- how a run ends: one of four words, or rejected
pub data Ending : Type 0 where
  Unsolvable : Ending  -- "`none` for the verdict"
  Plan : Ending  -- "`plan` for nothing waiting"
  Jammed : Ending  -- "`jammed` where a whole round delivered nothing while something waits"
  Open : Ending  -- "else `open`"
  Broken : Ending  -- "The run refuses only with 5"

-- the number that the run answers
unfoldable pub ending_number : Ending → ℕ
ending_number Unsolvable = 0
ending_number Plan = 0
ending_number Jammed = 0
ending_number Open = 0
ending_number Broken = rejection_number BadShape

-- the word, in ASCII; no word where the run is rejected
unfoldable pub ending_word : Ending → List ℕ
ending_word Unsolvable = 110 ∷ 111 ∷ 110 ∷ 101 ∷ []
ending_word Plan = 112 ∷ 108 ∷ 97 ∷ 110 ∷ []
ending_word Jammed = 106 ∷ 97 ∷ 109 ∷ 109 ∷ 101 ∷ 100 ∷ []
ending_word Open = 111 ∷ 112 ∷ 101 ∷ 110 ∷ []
ending_word Broken = []

-- a round that the run made: what it tried, and whether it counts
pub record Round : Type 0 where
  pub tried : List Try
  pub full : Bool

pub record Ran : Type 0 where
  pub network : Network
  pub made : ℕ  -- full rounds made
  pub ending : Ending
  pub rounds : List Round  -- every round, in order

-- the verdict comes first, then nothing waiting; `stuck` where the last round delivered nothing
unfoldable pub ending_at : Network → Bool → Ending
ending_at w stuck =
    elim w.unsolvable [ true ↦ Unsolvable | false ↦ elim (idle w) [ true ↦ Plan | false ↦ elim stuck [ true ↦ Jammed | false ↦ Open ] ] ]

unfoldable pub finish : Network → ℕ → List Round → Bool → Ran
finish w made rounds stuck = record { network = w; made = made; ending = ending_at w stuck; rounds = rounds }

unfoldable pub one_if : Bool → ℕ
one_if true = 1
one_if false = 0

-- "a whole round that delivered nothing"
unfoldable pub is_stuck : Sweep → Bool
is_stuck s = eqb s.delivered 0

-- Two figures: the rounds left that the run may use, and the full rounds made. "Each visit of all lines uses one of the allowed rounds"
unfoldable pub run_from : ℕ → ℕ → List Round → Network → Ran
run_from zero made rounds w = finish w made rounds false
run_from (suc left) made rounds w =
    elim (w.unsolvable || idle w) [
      | true ↦ finish w made rounds false
      | false ↦
          let s = round w in
          let made' = made + one_if (is_full w s) in
          let rounds' = rounds ++ (record { tried = s.tried; full = is_full w s } ∷ []) in
          elim (is_stuck s) [
            | true ↦ finish s.network made' rounds' true
            | false ↦ run_from left made' rounds' s.network
          ]
    ]

-- "0 to 1,000,000, and more is taken as 1,000,000"
unfoldable pub max_rounds : ℕ
max_rounds = 1000000

unfoldable pub allowed : ℕ → ℕ
allowed k = elim (leb k max_rounds) [ true ↦ k | false ↦ max_rounds ]

-- "The run refuses only with 5, with zero rounds and that number in place of the word; on a rail with a verdict it returns `none` and zero rounds."
unfoldable pub run : ℕ → Network → Ran
run k w =
    elim (in_shape w) [
      | true ↦ run_from (allowed k) 0 [] w
      | false ↦ record { network = w; made = 0; ending = Broken; rounds = [] }
    ]
