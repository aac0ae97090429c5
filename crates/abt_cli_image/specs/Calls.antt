-- The calls that words say, all of them; or the first word that says none.
use Rattle.std.specs.Prelude.{ℕ, List, [], ◌∷◌, ◌++◌, Option, None, Some}
use Rattle.abt_calls.specs.declared.calls.Call.{Call}
use Rattle.abt_board_text.specs.Reading.{call_in}

pub data Calls : Type 0 where
  Understood : List Call → Calls
  NoCall : List ℕ → Calls

-- these calls, in front of the others
unfoldable pub ahead : List Call → Calls → Calls
ahead calls (Understood others) = Understood (calls ++ others)
ahead calls (NoCall word) = NoCall word

unfoldable pub calls_by : Option Call → List ℕ → Calls → Calls
calls_by None word others = NoCall word
calls_by (Some call) word others = ahead (call ∷ []) others

-- from left to right
unfoldable pub calls_from : List (List ℕ) → Calls
calls_from [] = Understood []
calls_from (word ∷ words) = calls_by (call_in word) word (calls_from words)
