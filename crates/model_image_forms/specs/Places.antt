-- Bytes laid by place. docs/FORMATS.md, 'The second form'.
use Rattle.std.specs.Prelude.{ℕ, ◌+◌, ◌*◌, List, [], ◌∷◌, get_or}
use Rattle.model_base.specs.Finite.{gather}
use Rattle.model_image.specs.Bytes.{stretch}

-- "the first byte of all records, then the second, and so on": so many records, each so many bytes wide. Bytes laid so are `width` records, each `count`
-- wide, and laid by place again they stand as they stood.
unfoldable pub by_place : ℕ → ℕ → List ℕ → List ℕ
by_place count width s = gather width 0 (λ place. gather count 0 (λ r. get_or s (width * r + place) 0 ∷ []))

-- so many records, each so many bytes wide, each changed by itself
unfoldable pub each_record : ℕ → ℕ → (List ℕ → List ℕ) → List ℕ → List ℕ
each_record count width f s = gather count 0 (λ r. f (stretch (width * r) width s))
