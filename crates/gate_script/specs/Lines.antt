-- A line of the cases: where it ends, and the numbers in it, which are its runs of decimal digits.
use Rattle.std.specs.Prelude.{ℕ, suc, ◌+◌, ◌*◌, ◌-◌, ◌%◌, Bool, true, false, not, cond, ◌&&◌, List, [], ◌∷◌, Option, None, eqb, ltb, leb, get_or, set, replicate, take}
use Rattle.std.specs.List.{slice_get}
use Rattle.gate_script.specs.declared.lines.Numbers.{Numbers}

-- the place of the first line feed in some bytes that begin at this place, or else of their end
unfoldable pub end_from : ℕ → List ℕ → ℕ
end_from at [] = at
end_from at (b ∷ bs) = elim (eqb b 10) [ true ↦ at | false ↦ end_from (suc at) bs ]

-- the line at the front of some bytes, without its line feed
abbrev pub first_line : List ℕ → List ℕ
first_line text = take (end_from 0 text) text

-- '0' to '9'
unfoldable pub is_digit : ℕ → Bool
is_digit b = leb 48 b && leb b 57

-- a number with one digit more; the last eleven digits count
abbrev pub with_digit : ℕ → ℕ → ℕ
with_digit value b = value % 10000000000 * 10 + (b - 48)

-- the number that the digits at the front of some bytes say, behind those of this value
unfoldable pub value_from : ℕ → List ℕ → ℕ
value_from value [] = value
value_from value (b ∷ bs) = elim (is_digit b) [ true ↦ value_from (with_digit value b) bs | false ↦ value ]

-- a digit, and no digit before it
unfoldable pub number_begins : ℕ → ℕ → Bool
number_begins before b = is_digit b && not (is_digit before)

-- the numbers in some bytes, with this byte before them
unfoldable pub numbers_after : ℕ → List ℕ → List ℕ
numbers_after before [] = []
numbers_after before (b ∷ bs) = elim (number_begins before b) [ true ↦ value_from 0 (b ∷ bs) ∷ numbers_after b bs | false ↦ numbers_after b bs ]

-- no number yet
unfoldable pub no_numbers : Numbers
no_numbers = record { count = 0; values = replicate 16 0 }

-- one number more; there is room for sixteen
unfoldable pub with_number : ℕ → Numbers → Numbers
with_number value n = cond (ltb n.count 16) (record { count = n.count + 1; values = set n.values n.count value }) n

-- these numbers more
unfoldable pub with_numbers : List ℕ → Numbers → Numbers
with_numbers [] n = n
with_numbers (value ∷ values) n = with_numbers values (with_number value n)

-- the numbers in a line; a blank is no digit
unfoldable pub numbers_in : List ℕ → Numbers
numbers_in line = with_numbers (numbers_after 32 line) no_numbers

-- number k of a line, from 0 on, if it has so many
abbrev pub number_of : Numbers → ℕ → Option ℕ
number_of n k = cond (ltb k n.count) (slice_get n.values k) None

-- number k of a line, as a byte
abbrev pub small_of : Numbers → ℕ → ℕ
small_of n k = get_or n.values k 0 % 256
