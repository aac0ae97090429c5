-- The worked nights of docs/RULES.md that are marked P, five more and three of the start's rule: scripts of calls and of what must be seen between them.
use Rattle.std.specs.Prelude.{ℕ, zero, suc, ◌≡◌, Bool, true, false, ◌&&◌, List, [], ◌∷◌, ◌++◌, length, replicate, eqb}
use Rattle.model_base.specs.Finite.{gather}
use Rattle.model_base.specs.Same.{same_numbers}
use Rattle.model_sheet.specs.Problem.{no_bans}
use Rattle.model_sheet.specs.Row.{Row}
use Rattle.model_sheet.specs.Writing.{written}
use Rattle.model_sheet.specs.Cases.{ban}
use Rattle.model_agent.specs.Message.{Assignment, Message, Info, Back}
use Rattle.model_agent.specs.Agent.{Agent, with_counts}
use Rattle.model_agent.specs.Cases.{values, agent, same_agent, same_message, counts, same_counts}
use Rattle.model_agent.specs.Choosing.{quiet_rule}
use Rattle.model_network.specs.Network.{Network, empty_network, with_channel, start_sheet}
use Rattle.model_network.specs.Shape.{in_shape}
use Rattle.model_network.specs.Delivery.{answer_number, deliver, ask_value}
use Rattle.model_network.specs.Run.{Try, Ending, Unsolvable, Plan, Jammed, Open, ending_word, Round, Ran, run}

-- ---- sheets, as bytes

unfoldable pub padded : ℕ → List ℕ → List ℕ
padded zero l = []
padded (suc m) [] = 0 ∷ padded m []
padded (suc m) (x ∷ l) = x ∷ padded m l

-- the sheet of an edition with these slot counts and rows
unfoldable pub sheet_of : ℕ → List ℕ → List Row → List ℕ
sheet_of edition domains = written edition (record { count = length domains; domains = padded 12 domains; bans = no_bans })

unfoldable pub sheet : List ℕ → List Row → List ℕ
sheet = sheet_of 1

-- ---- messages, compared

unfoldable pub same_messages : List Message → List Message → Bool
same_messages [] [] = true
same_messages [] (n ∷ ns) = false
same_messages (m ∷ ms) [] = false
same_messages (m ∷ ms) (n ∷ ns) = same_message m n && same_messages ms ns

-- ---- scripts

pub data Scene : Type 0 where
  Runs : ℕ → Ending → ℕ → Scene  -- a run with so many rounds allowed: its word, its full rounds
  Delivers : ℕ → ℕ → ℕ → Scene  -- a delivery on a line: its number
  Waiting : ℕ → ℕ → List Message → Scene  -- a line holds exactly these, head first
  Values : List ℕ → Scene  -- asked, agents 1, 2, .. give these values, and number 0
  Holds : ℕ → Agent → Scene  -- an agent has this record
  Tries : List ℕ → Scene  -- a run with one round would try these lines, and be answered with these numbers
  Counted : ℕ → List ℕ → List ℕ → Scene  -- an agent's counts, sent and received: news, refusals, requests

unfoldable pub asked : ℕ → List ℕ → Network → Bool
asked i [] w = true
asked i (v ∷ vs) w = eqb (answer_number (ask_value w i).answer) 0 && eqb (ask_value w i).value v && asked (suc i) vs w

unfoldable pub ran_as : Ending → ℕ → Ran → Bool
ran_as e made r = same_numbers (ending_word r.ending) (ending_word e) && eqb r.made made

-- one try: the line and the number
abbrev pub tried : ℕ → ℕ → ℕ → List ℕ
tried i j number = i ∷ j ∷ number ∷ []

unfoldable pub tries_in : List Try → List ℕ
tries_in [] = []
tries_in (t ∷ ts) = tried t.line.from t.line.to (answer_number t.answer) ++ tries_in ts

unfoldable pub tries_of : List Round → List ℕ
tries_of [] = []
tries_of (r ∷ rs) = tries_in r.tried ++ tries_of rs

-- a script holds from a network on
unfoldable pub holds_from : List Scene → Network → Bool
holds_from [] w = true
holds_from (Runs k e made ∷ cs) w = let r = run k w in ran_as e made r && holds_from cs r.network
holds_from (Delivers i j number ∷ cs) w =
    let d = deliver w i j in eqb (answer_number d.answer) number && holds_from cs d.network
holds_from (Waiting i j ms ∷ cs) w = same_messages (w.channel i j) ms && holds_from cs w
holds_from (Values vs ∷ cs) w = asked 1 vs w && holds_from cs w
holds_from (Holds i a ∷ cs) w = same_agent (w.agents i) a && holds_from cs w
holds_from (Tries ts ∷ cs) w = same_numbers (tries_of (run 1 w).rounds) ts && holds_from cs w
holds_from (Counted i sent received ∷ cs) w = same_counts (w.agents i).counts (counts sent received) && holds_from cs w

-- ---- nights

pub data Night : Type 0 where
  Played : List ℕ → List Scene → Night  -- the start for this sheet, under rule 1, gives 0, and the script holds from there
  Quietly : List ℕ → List Scene → Night  -- the same under rule 2
  Turned : ℕ → List ℕ → ℕ → Night  -- the start for this rule and sheet gives this number and the empty network
  SameStart : List ℕ → List ℕ → Night  -- the starts for two sheets, under rule 1, are the same
  Forged : Network → List Scene → Night  -- the network is in shape, and the script holds from there

abbrev pub NightHolds : Night → Type 0
NightHolds (Played s script) = (eqb (start_sheet 1 s).number 0 && holds_from script (start_sheet 1 s).network) ≡ true
NightHolds (Quietly s script) = (eqb (start_sheet quiet_rule s).number 0 && holds_from script (start_sheet quiet_rule s).network) ≡ true
NightHolds (Turned rule s number) = start_sheet rule s ≡ record { number = number; network = empty_network }
NightHolds (SameStart s t) = start_sheet 1 s ≡ start_sheet 1 t
NightHolds (Forged w script) = (in_shape w && holds_from script w) ≡ true

abbrev pub AllHold : List Night → Type 0
AllHold [] = Unit {0}
AllHold (c ∷ cs) = NightHolds c × AllHold cs

unfoldable pub sheet1 : List ℕ
sheet1 = sheet (1 ∷ []) []

unfoldable pub sheet2 : List ℕ
sheet2 = sheet (1 ∷ 1 ∷ []) (ban 1 1 2 1 ∷ [])

unfoldable pub sheet3 : List ℕ
sheet3 = sheet (2 ∷ 2 ∷ []) (ban 1 1 2 1 ∷ [])

unfoldable pub sheet4 : List ℕ
sheet4 = sheet (2 ∷ 2 ∷ []) (ban 1 1 2 1 ∷ ban 1 1 2 1 ∷ [])

unfoldable pub sheet5 : List ℕ
sheet5 = sheet (2 ∷ 1 ∷ []) (ban 1 1 2 1 ∷ [])

-- as docs/PROGRAMS.md, 'dock', has it
unfoldable pub sheet9 : List ℕ
sheet9 =
    0x03 ∷ 0x01 ∷ 0x01 ∷ 0x00 ∷ 0x02 ∷ 0x00 ∷ 0x00 ∷ 0x00 ∷ 0x02 ∷ 0x01 ∷ 0x02 ∷ 0x00 ∷ 0x00 ∷ 0x00 ∷ 0x00 ∷ 0x00 ∷ 0x00 ∷ 0x00 ∷ 0x00 ∷ 0x00
    ∷ 0x00 ∷ 0x00 ∷ 0x00 ∷ 0x00
    ∷ 0x01 ∷ 0x03 ∷ 0x01 ∷ 0x01 ∷ 0x02 ∷ 0x00 ∷ 0x00 ∷ 0x00
    ∷ 0x02 ∷ 0x03 ∷ 0x01 ∷ 0x02 ∷ 0x00 ∷ 0x00 ∷ 0x00 ∷ 0x00
    ∷ []

-- visited by receiver first, the verdict would cut round 2 short: 1 round
unfoldable pub sheet_order : List ℕ
sheet_order = sheet (2 ∷ 1 ∷ 1 ∷ []) (ban 1 1 2 1 ∷ ban 2 1 3 1 ∷ [])

-- agents 1 and 2 of P5, agent 1 with a value more, on one rail with two others
unfoldable pub sheet_shared : List ℕ
sheet_shared = sheet (3 ∷ 1 ∷ 2 ∷ 1 ∷ []) (ban 1 1 2 1 ∷ ban 1 1 3 1 ∷ ban 1 2 4 1 ∷ ban 3 2 4 1 ∷ [])

unfoldable pub empty : Assignment
empty = values []

-- agent 2 of either, when it was told 1's value 1, and then 2
unfoldable pub told1 : List Scene
told1 = Holds 2 (with_counts (agent 1 (1 ∷ []) [] [] []) (counts (0 ∷ 1 ∷ []) (1 ∷ []))) ∷ Waiting 2 1 (Back empty 1 ∷ []) ∷ []

unfoldable pub told2 : List Scene
told2 = Holds 2 (with_counts (agent 1 (1 ∷ []) [] (2 ∷ []) []) (counts (0 ∷ 1 ∷ []) (2 ∷ []))) ∷ Waiting 2 1 [] ∷ []

-- P5's network at its start, with other messages: eight of agent 1's value on the line to 2, each of which 2 would answer with a refusal, and eight
-- refusals of a value of agent 1 on the line back
unfoldable pub crowded : ℕ → Network
crowded v =
    with_channel (with_channel (start_sheet 1 sheet5).network 1 2 (replicate 8 (Info 1))) 2 1 (replicate 8 (Back empty v))

unfoldable pub nights : List Night
nights =
    -- P1
    Played sheet1 (Runs 100000 Plan 0 ∷ Values (1 ∷ []) ∷ [])
    -- P2; P7, after its verdict
    ∷ Played sheet2 (Runs 100000 Unsolvable 2 ∷ Delivers 1 2 7 ∷ [])
    -- P3; P8's second half, at rest
    ∷ Played sheet3 (Runs 100000 Plan 1 ∷ Values (1 ∷ 2 ∷ []) ∷ Delivers 1 2 8 ∷ [])
    -- .. and its counts: the start's news is sent, then received; the rejected delivery counts nothing
    ∷ Played sheet3 (
    Counted 1 (1 ∷ 0 ∷ 0 ∷ []) (0 ∷ 0 ∷ 0 ∷ []) ∷ Counted 2 (0 ∷ 0 ∷ 0 ∷ []) (0 ∷ 0 ∷ 0 ∷ [])
    ∷ Delivers 1 2 0 ∷ Counted 1 (1 ∷ 0 ∷ 0 ∷ []) (0 ∷ 0 ∷ 0 ∷ []) ∷ Counted 2 (0 ∷ 0 ∷ 0 ∷ []) (1 ∷ 0 ∷ 0 ∷ [])
    ∷ Delivers 1 2 8 ∷ Counted 1 (1 ∷ 0 ∷ 0 ∷ []) (0 ∷ 0 ∷ 0 ∷ []) ∷ Counted 2 (0 ∷ 0 ∷ 0 ∷ []) (1 ∷ 0 ∷ 0 ∷ []) ∷ [])
    -- P4
    ∷ SameStart sheet4 sheet3
    -- P5
    ∷ Played sheet5 (Runs 100000 Plan 3 ∷ Values (2 ∷ 1 ∷ []) ∷ [])
    -- P6
    ∷ Played sheet2 (Runs 0 Open 0 ∷ [])
    -- P8's first half
    ∷ Played sheet1 (Delivers 1 1 6 ∷ [])
    -- P9
    ∷ Played sheet9 (
    Runs 100000 Plan 5 ∷ Values (2 ∷ 1 ∷ 1 ∷ [])
    ∷ Counted 1 (4 ∷ 0 ∷ 0 ∷ []) (0 ∷ 1 ∷ 1 ∷ [])
    ∷ Counted 2 (3 ∷ 1 ∷ 1 ∷ []) (2 ∷ 2 ∷ 0 ∷ [])
    ∷ Counted 3 (0 ∷ 2 ∷ 0 ∷ []) (5 ∷ 0 ∷ 0 ∷ []) ∷ [])
    ∷ Played sheet_order (Runs 100000 Unsolvable 2 ∷ [])
    -- two rails alike in agent 2, which is handed the same on both: it has the same record and sends the same
    ∷ Played sheet5 (Delivers 1 2 0 ∷ told1 ++ Delivers 2 1 0 ∷ Delivers 1 2 0 ∷ told2)
    ∷ Played sheet_shared (
    Delivers 1 3 0 ∷ Delivers 2 1 8 ∷ Delivers 1 2 0
    ∷ told1 ++ Delivers 1 4 0 ∷ Delivers 2 1 0 ∷ Delivers 1 4 0 ∷ Delivers 1 2 0
    ∷ told2)
    -- The refusals are of the value that agent 1 has, so that 1 would answer with news: nothing can be delivered. Each line is tried once, and the round
    -- that shows it is one of those allowed.
    ∷ Forged (crowded 1) (Tries (tried 1 2 10 ++ tried 2 1 10) ∷ Runs 0 Open 0 ∷ Runs 1 Jammed 0 ∷ Runs 100000 Jammed 0 ∷ [])
    -- They are of another value, and call for no answer: the first line is passed over, and the line behind it is delivered all the same. That round is not
    -- full.
    ∷ Forged (crowded 2) (
    Tries (tried 1 2 10 ++ gather 8 1 (λ k. tried 2 1 0))
    ∷ Runs 1 Open 0 ∷ Waiting 1 2 (replicate 8 (Info 1)) ∷ Waiting 2 1 [] ∷ [])
    -- "a rule other than 1 or 2 is refused with 11, before the sheet is looked at": of no bytes at all
    ∷ Turned 0 sheet1 11
    ∷ Turned 3 [] 11
    ∷ Turned 2 [] 1
    ∷ []
