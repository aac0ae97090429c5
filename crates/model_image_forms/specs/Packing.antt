-- A message's record in the second form. docs/FORMATS.md, 'The second form'.
use Rattle.std.specs.Prelude.{ℕ, suc, ◌+◌, ◌*◌, ◌/◌, ◌%◌, ◌≤◌, ◌<◌, List, [], ◌∷◌, ◌++◌, get_or, take}
use Rattle.model_base.specs.Finite.{gather}

-- sort, slot and next index stand before the left side, in both forms
unfoldable pub front_length : ℕ
front_length = 4

-- "so a message has ten bytes": 1 + 1 + 2 + 6
unfoldable pub packed_length : ℕ
packed_length = 10

-- "its twelve left-side slots are six bytes, each two slots, the lower-numbered scanner in the low half"
unfoldable pub packed : List ℕ → List ℕ
packed m =
    take front_length m
    ++ gather 6 0 (λ i. (get_or m (front_length + 2 * i) 0 + 16 * get_or m (front_length + suc (2 * i)) 0) ∷ [])

unfoldable pub unpacked : List ℕ → List ℕ
unpacked m =
    take front_length m ++ gather 6 0 (λ i. get_or m (front_length + i) 0 % 16 ∷ get_or m (front_length + i) 0 / 16 ∷ [])

-- messages that can be packed: in records of 16 bytes every byte from the fifth on, where a left side stands, has room in half a byte
abbrev pub LowSlots : List ℕ → Type 0
LowSlots s = (p : ℕ) → 4 ≤ p % 16 → get_or s p 0 < 16
