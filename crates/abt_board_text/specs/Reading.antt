-- What a word of the command line means: `A-B` is a delivery from A to B, each 0 to 255, `wA-B` a pick with that line for its wish, `rN` a run with N rounds.
-- Numbers are digits only, of any length; leading zeros do no harm.
use Rattle.std.specs.Prelude.{ℕ, suc, Bool, true, false, List, [], ◌∷◌, Option, Some, None, option_map, position, eqb, leb, take, drop}
use Rattle.model_base.specs.Numerals.{number_in}
use Rattle.abt_dispatch.specs.declared.Line.{Line}
use Rattle.abt_calls.specs.declared.calls.Call.{Call}
use Rattle.abt_calls.specs.declared.calls.Call.TheVariants.{Deliver, Run, Pick}

unfoldable pub is_byte : ℕ → Bool
is_byte k = leb k 255

unfoldable pub byte_for : Option ℕ → Option ℕ
byte_for (Some k) = elim (is_byte k) [ true ↦ Some k | false ↦ None ]
byte_for None = None

-- a number from 0 to 255
unfoldable pub byte_in : List ℕ → Option ℕ
byte_in s = byte_for (number_in s)

unfoldable pub ends_for : Option ℕ → Option ℕ → Option Line
ends_for (Some a) (Some b) = Some (record { from = a; to = b })
ends_for (Some a) None = None
ends_for None b = None

-- the first '-'
unfoldable pub dash_in : List ℕ → Option ℕ
dash_in s = position (λ b. eqb b 45) s

unfoldable pub ends_at : Option ℕ → List ℕ → Option Line
ends_at (Some k) s = ends_for (byte_in (take k s)) (byte_in (drop (suc k) s))
ends_at None s = None

-- both sides of the first '-'
unfoldable pub ends_in : List ℕ → Option Line
ends_in s = ends_at (dash_in s) s

-- 'r' is 114, 'w' is 119
unfoldable pub call_in : List ℕ → Option Call
call_in [] = None
call_in (b ∷ bs) =
    elim (eqb b 114) [
      | true ↦ option_map Run (number_in bs)
      | false ↦ elim (eqb b 119) [ true ↦ option_map Pick (ends_in bs) | false ↦ option_map Deliver (ends_in (b ∷ bs)) ]
    ]
