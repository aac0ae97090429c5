-- A lent buffer that nothing was written to.
use Rattle.std.specs.Prelude.{ℕ, Bool, true, ◌&&◌, List, [], ◌∷◌, eqb, drop}

-- every byte is the mark
unfoldable pub all_marked : List ℕ → Bool
all_marked [] = true
all_marked (b ∷ bs) = eqb b 170 && all_marked bs

-- every byte from this one on is the mark
unfoldable pub marked_from : List ℕ → ℕ → Bool
marked_from bytes from = all_marked (drop from bytes)
