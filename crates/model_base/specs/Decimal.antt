-- What the programs print, as bytes in ASCII: numbers, and text that is put behind other text in a buffer.
use Rattle.std.specs.Prelude.{ℕ, zero, suc, ◌+◌, ◌/◌, ◌%◌, ◌≡◌, true, false, List, [], ◌∷◌, ◌++◌, ltb, length, take}

-- the last digits of n in decimal, without leading zeros, at most `most` of them; '0' is 48
unfoldable pub last_decimals : ℕ → ℕ → List ℕ
last_decimals zero n = []
last_decimals (suc most) n = elim (ltb n 10) [ true ↦ (48 + n) ∷ [] | false ↦ last_decimals most (n / 10) ++ ((48 + n % 10) ∷ []) ]

-- n in decimal without leading zeros; it has at most n + 1 digits
unfoldable pub decimal : ℕ → List ℕ
decimal n = last_decimals (suc n) n

unfoldable pub newline : List ℕ
newline = 10 ∷ []

-- a line that ends in a number: what stands before it, and the number
unfoldable pub line_of : List ℕ → ℕ → List ℕ
line_of before n = before ++ (decimal n ++ newline)

-- a buffer whose first `at` bytes stay, with s behind them: its first n bytes afterwards
pub record Appends (old : List ℕ) (at : ℕ) (s new : List ℕ) (n : ℕ) : Type 0 where
  pub count : n ≡ at + length s
  pub room : length new ≡ length old
  pub text : take n new ≡ take at old ++ s
