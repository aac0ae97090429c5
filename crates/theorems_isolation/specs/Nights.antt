-- Worked pairs of networks, each alike in agent 2: handed the same it acts the same, and the next delivery to it is accepted on one alone, for each
-- of the three reasons.
use Rattle.std.specs.Prelude.{ℕ, ◌≡◌, Bool, true, false, ◌&&◌, List, [], ◌∷◌, ◌++◌, eqb}
use Rattle.model_base.specs.Finite.{at, all_to, gather}
use Rattle.model_base.specs.Same.{same_bool}
use Rattle.model_sheet.specs.Problem.{max_agents, max_domain, domain, banned}
use Rattle.model_sheet.specs.Cases.{ban}
use Rattle.model_agent.specs.Message.{Info, Back, Post}
use Rattle.model_agent.specs.Agent.{Agent, unused_agent, with_counts}
use Rattle.model_agent.specs.Cases.{agent, post, same_agent, same_message, same_posts, counts}
use Rattle.model_network.specs.Network.{Network, with_agents, start_sheet}
use Rattle.model_network.specs.Shape.{in_shape}
use Rattle.model_network.specs.Delivery.{answer_number, deliver}
use Rattle.model_network.specs.Nights.{sheet, sheet5, sheet_shared, empty}
use Rattle.theorems_network.specs.Calls.{Call, Deliver, Run, left_by_all}
use Rattle.theorems_network.specs.Deeds.{Handed, head_from, handed_in, posts_in}
use Rattle.theorems_isolation.specs.Tenants.{room_on}

-- ---- compared

unfoldable pub same_handed : List Handed → List Handed → Bool
same_handed [] [] = true
same_handed [] (k ∷ ks) = false
same_handed (h ∷ hs) [] = false
same_handed (h ∷ hs) (k ∷ ks) = eqb h.from k.from && same_message h.message k.message && same_handed hs ks

unfoldable pub same_bans : ℕ → Network → Network → Bool
same_bans j w v =
    all_to max_agents (λ k. all_to max_domain (λ x. all_to max_domain (λ y.
    same_bool (banned w.problem k j x y) (banned v.problem k j x y))))

-- the networks are alike in agent j
unfoldable pub alike : ℕ → Network → Network → Bool
alike j w v =
    eqb w.rule v.rule && same_agent (w.agents j) (v.agents j) && eqb (domain w.problem j) (domain v.problem j) && same_bans j w v

-- the calls hand agent j these messages; it sends these, and ends with this record
unfoldable pub acts_as : ℕ → List Handed → List Post → Agent → List Call → Network → Bool
acts_as j hs ps a calls w =
    same_handed (handed_in j calls w) hs && same_posts (posts_in j calls w) ps && same_agent ((left_by_all calls w).agents j) a

unfoldable pub same_room : ℕ → Network → Network → Bool
same_room j w v = all_to max_agents (λ y. eqb (room_on w j y) (room_on v j y))

-- in which of the three things two networks agree
pub record Agreement : Type 0 where
  pub shape : Bool
  pub unsolvable : Bool
  pub room : Bool

unfoldable pub agree_in : ℕ → Agreement → Network → Network → Bool
agree_in j g w v =
    same_bool (same_bool (in_shape w) (in_shape v)) g.shape
    && same_bool (same_bool w.unsolvable v.unsolvable) g.unsolvable
    && same_bool (same_room j w v) g.room

-- the same message is next on the line from i to j; the delivery is accepted on the first network, and on the second rejected with this number
unfoldable pub only_first : ℕ → ℕ → ℕ → Network → Network → Bool
only_first i j number w v =
    same_handed (head_from i (w.channel i j)) (head_from i (v.channel i j))
    && eqb (answer_number (deliver w i j).answer) 0
    && eqb (answer_number (deliver v i j).answer) number

-- ---- the pairs

pub data Pair : Type 0 where
  Acts : Network → List Call → Network → List Call → List Handed → List Post → Agent → Pair  -- agent 2, on both
  Differs : Network → Network → Agreement → ℕ → Pair  -- a delivery from 1 to 2

unfoldable pub pair_holds : Pair → Bool
pair_holds (Acts w calls v others hs ps a) = alike 2 w v && acts_as 2 hs ps a calls w && acts_as 2 hs ps a others v
pair_holds (Differs w v g number) = alike 2 w v && agree_in 2 g w v && only_first 1 2 number w v

abbrev pub AllHold : List Pair → Type 0
AllHold [] = Unit {0}
AllHold (c ∷ cs) = (pair_holds c ≡ true) × AllHold cs

-- what the calls leave of the start for a sheet
unfoldable pub reached : List ℕ → List Call → Network
reached s calls = left_by_all calls (start_sheet 1 s).network

-- agents 3 and 4 cannot both have their value
unfoldable pub sheet_doomed : List ℕ
sheet_doomed = sheet (2 ∷ 1 ∷ 1 ∷ 1 ∷ []) (ban 1 1 2 1 ∷ ban 3 1 4 1 ∷ [])

-- "Four scanners with slots 1, 8, 1, 1; bans 1:1 with 2:8; 2:1 to 2:7 each with 3:1; 2:1 with 4:1."
unfoldable pub sheet_full : List ℕ
sheet_full =
    sheet (1 ∷ 8 ∷ 1 ∷ 1 ∷ [])
    (ban 1 1 2 8
    ∷ ban 2 1 3 1 ∷ ban 2 2 3 1 ∷ ban 2 3 3 1 ∷ ban 2 4 3 1 ∷ ban 2 5 3 1 ∷ ban 2 6 3 1 ∷ ban 2 7 3 1
    ∷ ban 2 1 4 1 ∷ [])

-- "Deliver 2 to 3 and 3 to 2 in turn, seven times."
unfoldable pub turns : List Call
turns = gather 7 1 (λ k. Deliver 2 3 ∷ Deliver 3 2 ∷ [])

-- agent 4 without a value, and no verdict
unfoldable pub forged : Network → Network
forged w = with_agents w (at w.agents 4 unused_agent)

unfoldable pub nights : List Pair
nights =
    -- Agent 2 is told 1's value 1, refuses it, and is told 2: in a run, with nobody else there; and with deliveries to three others between, one that is
    -- rejected (8), and agent 1 refused its value 2 by another.
    Acts
    (reached sheet5 [])
    (Run 100 ∷ [])
    (reached sheet_shared [])
    (Deliver 1 3 ∷ Deliver 2 1 ∷ Deliver 1 2 ∷ Deliver 1 4 ∷ Deliver 2 1 ∷ Deliver 1 4 ∷ Deliver 1 2 ∷ Deliver 4 1 ∷ [])
    (record { from = 1; message = Info 1 } ∷ record { from = 1; message = Info 2 } ∷ [])
    (post 1 (Back empty 1) ∷ [])
    (with_counts (agent 1 (1 ∷ []) [] (2 ∷ []) []) (counts (0 ∷ 1 ∷ []) (2 ∷ [])))
    -- the shape
    ∷ Differs
    (reached sheet_shared [])
    (forged (reached sheet_shared []))
    (record { shape = false; unsolvable = true; room = true })
    5
    -- a verdict: 3's news reaches 4, whose refusal leaves 3 without a value
    ∷ Differs
    (reached sheet5 [])
    (reached sheet_doomed (Deliver 3 4 ∷ Deliver 4 3 ∷ []))
    (record { shape = true; unsolvable = false; room = true })
    7
    -- room: "Line 2 to 4 now holds eight, and a delivery 1 to 2 is refused with 10." On the first network agent 4 has been handed one of them.
    ∷ Differs
    (reached sheet_full (turns ++ Deliver 2 4 ∷ []))
    (reached sheet_full turns)
    (record { shape = true; unsolvable = true; room = false })
    10
    ∷ []
