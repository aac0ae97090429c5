-- Bytes that may be an image: n at most 12, and behind the heads whole messages, each so many bytes wide, as many as the lines can hold at most.
use Rattle.std.specs.Prelude.{ℕ, ◌+◌, ◌*◌, ◌≤◌, ◌≡◌, List, length, get_or, drop}
use Rattle.model_image_forms.specs.Packing.{LowSlots}

pub record Whole (width : ℕ) (s : List ℕ) : Type 0 where
  pub few : get_or s 1 0 ≤ 12
  pub waiting : ℕ
  pub most : waiting ≤ 1056
  pub long : length s ≡ 808 + 170 * get_or s 1 0 + width * waiting

-- whole bytes in the first form whose messages can be packed
pub record Packable (s : List ℕ) : Type 0 where
  pub whole : Whole 16 s
  pub low : LowSlots (drop (808 + 170 * get_or s 1 0) s)
