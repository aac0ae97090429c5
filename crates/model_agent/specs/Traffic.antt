-- The figures of an agent: how many messages of each sort it sent and was handed. docs/RULES.md, 'Figures on every scanner'.
use Rattle.std.specs.Prelude.{ℕ, ◌+◌, Bool, ◌&&◌, cond, List, [], ◌∷◌, map, leb}
use Rattle.model_agent.specs.Message.{Message, Info, Back, AddLink, Post}

-- "each of the three sorts"
pub data Sort : Type 0 where
  Infos : Sort  -- news
  Backs : Sort  -- refusals
  AddLinks : Sort  -- link requests

-- "six counts, numbers of 64 bits: the messages that it sent and those that it received, of each of the three sorts"
pub record Traffic : Type 0 where
  pub sent : Sort → ℕ
  pub received : Sort → ℕ

-- "They are zero before the start"
unfoldable pub no_counts : Traffic
no_counts = record { sent = λ x. 0; received = λ x. 0 }

-- each of the six passes
unfoldable pub each_sort : (Sort → ℕ) → (ℕ → Bool) → Bool
each_sort f p = p (f Infos) && p (f Backs) && p (f AddLinks)

unfoldable pub each_count : Traffic → (ℕ → Bool) → Bool
each_count c p = each_sort c.sent p && each_sort c.received p

-- ---- how many messages of a list are of a sort

unfoldable pub of_sort : Sort → Message → ℕ
of_sort Infos (Info v) = 1
of_sort Infos (Back lhs v) = 0
of_sort Infos AddLink = 0
of_sort Backs (Info v) = 0
of_sort Backs (Back lhs v) = 1
of_sort Backs AddLink = 0
of_sort AddLinks (Info v) = 0
of_sort AddLinks (Back lhs v) = 0
of_sort AddLinks AddLink = 1

unfoldable pub number : Sort → List Message → ℕ
number x [] = 0
number x (m ∷ ms) = of_sort x m + number x ms

unfoldable pub message_in : Post → Message
message_in p = p.message

unfoldable pub messages_in : List Post → List Message
messages_in posts = map message_in posts

-- ---- counting

-- the greatest number of 64 bits
unfoldable pub top : ℕ
top = 18446744073709551615

-- a count raised by k: "A count that would pass the greatest number of 64 bits, 2^64 - 1, is that number, and stays there"
unfoldable pub raised : ℕ → ℕ → ℕ
raised c k = cond (leb (c + k) top) (c + k) top

-- the counts of an agent that is handed the messages of one list and sends the posts of the other
unfoldable pub counting : Traffic → List Message → List Post → Traffic
counting c got posts =
    record {
      sent = λ x. raised (c.sent x) (number x (messages_in posts));
      received = λ x. raised (c.received x) (number x got);
    }
