-- One delivery, and asking a value. docs/RULES.md, the end of 'What a scanner does', and the table's numbers 5 to 10.
use Rattle.std.specs.Prelude.{ℕ, Bool, true, false, not, ◌&&◌, List, [], ◌∷◌, eqb}
use Rattle.model_base.specs.Finite.{within, all_to}
use Rattle.model_sheet.specs.Problem.{max_agents}
use Rattle.model_agent.specs.Message.{Message, Post}
use Rattle.model_network.specs.Network.{Network, step_on, handed}
use Rattle.model_network.specs.Shape.{has_room, in_shape}

-- why a call is rejected
pub data Rejection : Type 0 where
  BadShape : Rejection  -- "the shape is broken"
  BadNumbers : Rejection  -- "scanner numbers not 1 to n, or equal"
  VerdictStands : Rejection  -- "a verdict stands"
  EmptyChannel : Rejection  -- "the line is empty"
  NoRoom : Rejection  -- "no room"

-- the table's number; "No rejection has number 9."
unfoldable pub rejection_number : Rejection → ℕ
rejection_number BadShape = 5
rejection_number BadNumbers = 6
rejection_number VerdictStands = 7
rejection_number EmptyChannel = 8
rejection_number NoRoom = 10

pub data Answer : Type 0 where
  Accepted : Answer
  Rejected : Rejection → Answer

-- "A call that is not refused gives number 0."
unfoldable pub answer_number : Answer → ℕ
answer_number Accepted = 0
answer_number (Rejected r) = rejection_number r

unfoldable pub is_accepted : Answer → Bool
is_accepted Accepted = true
is_accepted (Rejected r) = false

-- ---- delivery

pub record Delivery : Type 0 where
  pub network : Network
  pub answer : Answer
  pub sent : List Post  -- by the receiver, in order; nothing where the delivery is rejected

-- "the rail given"
unfoldable pub rejecting : Rejection → Network → Delivery
rejecting r w = record { network = w; answer = Rejected r; sent = [] }

unfoldable pub numbers_good : Network → ℕ → ℕ → Bool
numbers_good w i j = within w.problem.count i && within w.problem.count j && not (eqb i j)

-- no line holds more than eight
unfoldable pub fits : Network → Bool
fits w = all_to max_agents (λ i. all_to max_agents (λ j. has_room w i j))

-- "A delivery takes the head of one line and does this. It needs room: it is refused exactly if a line would come to hold more than eight messages."
unfoldable pub deliver_head : Network → ℕ → ℕ → List Message → Delivery
deliver_head w i j [] = rejecting EmptyChannel w
deliver_head w i j (m ∷ others) =
    elim (fits (handed w i j m others)) [
      | true ↦ record { network = handed w i j m others; answer = Accepted; sent = (step_on w i j m).sent }
      | false ↦ rejecting NoRoom w
    ]

-- "A delivery tests 5, 6, 7, 8 and 10 in that order"
unfoldable pub deliver : Network → ℕ → ℕ → Delivery
deliver w i j =
    elim (in_shape w) [
      | false ↦ rejecting BadShape w
      | true ↦ elim (numbers_good w i j) [
        | false ↦ rejecting BadNumbers w
        | true ↦ elim w.unsolvable [
          | true ↦ rejecting VerdictStands w
          | false ↦ deliver_head w i j (w.channel i j)
        ]
      ]
    ]

-- ---- "Asking a scanner's slot refuses with 5 or 6 and slot 0; a scanner that the verdict left without a slot gives slot 0 and no rejection."

pub record Asked : Type 0 where
  pub answer : Answer
  pub value : ℕ

unfoldable pub ask_value : Network → ℕ → Asked
ask_value w i =
    elim (in_shape w) [
      | false ↦ record { answer = Rejected BadShape; value = 0 }
      | true ↦ elim (within w.problem.count i) [
        | false ↦ record { answer = Rejected BadNumbers; value = 0 }
        | true ↦ record { answer = Accepted; value = (w.agents i).value }
      ]
    ]
