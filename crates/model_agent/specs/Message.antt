-- What agents send each other. docs/RULES.md, 'The rail': "A message is exactly one of three".
use Rattle.std.specs.Prelude.{ℕ, Bool, true, false, List, [], ◌∷◌, eqb, ltb}

-- A partial assignment: a value for each agent, 0 where it is unknown or not named. Views and left sides are such.
abbrev pub Assignment : Type 0
Assignment = ℕ → ℕ

unfoldable pub known : ℕ → Bool
known v = ltb 0 v

unfoldable pub nobody : Assignment
nobody k = 0

pub data Message : Type 0 where
  Info : ℕ → Message  -- news: "the sender's slot"
  Back : Assignment → ℕ → Message  -- refusal: the left side, "and one slot that the receiver must not take"
  AddLink : Message  -- link request

-- a message on its way
pub record Post : Type 0 where
  pub to : ℕ
  pub message : Message

-- what a list of posts puts on the channel to agent k
unfoldable pub sent_to : ℕ → List Post → List Message
sent_to k [] = []
sent_to k (p ∷ ps) = elim (eqb k p.to) [ true ↦ p.message ∷ sent_to k ps | false ↦ sent_to k ps ]
