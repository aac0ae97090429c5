-- Writing into a lent buffer: what a writer answers, and what it leaves there.
use Rattle.std.specs.Prelude.{ℕ, true, false, List, ◌++◌, length, drop, leb}

pub record Written : Type 0 where
  pub number : ℕ
  pub length : ℕ  -- "the length written, 0 if refused"
  pub buffer : List ℕ

-- "12, where the buffer is shorter"
unfoldable pub short_buffer : ℕ
short_buffer = 12

-- "the buffer is untouched"
unfoldable pub untouched : ℕ → List ℕ → Written
untouched number buffer = record { number = number; length = 0; buffer = buffer }

-- these bytes, where there is room; "bytes past it stay"
unfoldable pub put : List ℕ → List ℕ → Written
put bytes buffer =
    elim (leb (length bytes) (length buffer)) [
      | true ↦ record { number = 0; length = length bytes; buffer = bytes ++ drop (length bytes) buffer }
      | false ↦ untouched short_buffer buffer
    ]
