-- An output as it is handed on from part to part, and what is put there.
use Rattle.std.specs.Prelude.{ℕ, ◌+◌, ◌/◌, ◌%◌, true, false, Option, List, [], ◌∷◌, ltb}
use Rattle.support_cli.specs.Streams.{OutputState}
use Rattle.abt_words.specs.declared.printing.Out.{Out}

-- the bytes that it holds, where they are known, and whether a write to it has failed
abbrev pub state_of : {W : Type 0} → (W → Option (List ℕ)) → Out W → OutputState
state_of contents o = record { known = contents o.writer; failed = o.failed }

-- a digit of 16: '0' is 48, 'a' is 97
unfoldable pub hex_digit : ℕ → ℕ
hex_digit k = elim (ltb k 10) [ true ↦ 48 + k | false ↦ 87 + k ]

-- a blank, and a byte in two hexadecimal digits
unfoldable pub hex_byte : ℕ → List ℕ
hex_byte b = 32 ∷ hex_digit (b / 16) ∷ hex_digit (b % 16) ∷ []
