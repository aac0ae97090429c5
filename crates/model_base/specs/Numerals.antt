-- What a word means as a number: "Numbers are digits only, of any length; leading zeros do no harm."
use Rattle.std.specs.Prelude.{ℕ, ◌+◌, ◌*◌, ◌-◌, ◌^◌, Bool, true, false, ◌&&◌, List, [], ◌∷◌, Option, Some, None, ltb, leb, length}
use Rattle.model_base.specs.Finite.{every}

-- '0' to '9'
unfoldable pub is_digit : ℕ → Bool
is_digit b = leb 48 b && leb b 57

-- the number that decimal digits say, behind those of value v
unfoldable pub value_from : ℕ → List ℕ → ℕ
value_from v [] = v
value_from v (b ∷ bs) = value_from (10 * v + (b - 48)) bs

-- the largest number of 64 bits stands for every larger one: neither is an agent's or an ordinal, and a run with either is the same (`capped-run`,
-- abt_board_text/proofs/Capped)
unfoldable pub top : ℕ
top = 2 ^ 64 - 1

unfoldable pub capped : ℕ → ℕ
capped k = elim (leb k top) [ true ↦ k | false ↦ top ]

unfoldable pub is_number : List ℕ → Bool
is_number s = ltb 0 (length s) && every is_digit s

unfoldable pub number_in : List ℕ → Option ℕ
number_in s = elim (is_number s) [ true ↦ Some (capped (value_from 0 s)) | false ↦ None ]
