-- The records of a gap sheet: one for each unbroken run of banned gaps. docs/FORMATS.md, 'Turning one edition into the other'.
-- The gaps from -7 to 7 are counted as places 0 to 14.
use Rattle.std.specs.Prelude.{ℕ, zero, suc, pred, ◌+◌, ◌-◌, ◌%◌, Bool, true, false, not, cond, ◌&&◌, List, [], ◌∷◌, eqb}
use Rattle.model_base.specs.Finite.{from_one, lowest, all_to, gather, is_some}
use Rattle.model_sheet.specs.Problem.{Problem, domain, banned}
use Rattle.model_sheet.specs.Row.{Row}
use Rattle.model_editions.specs.Bans.{over_pairs}

-- ---- gaps as places

unfoldable pub gap_places : ℕ
gap_places = 15

-- the place of the gap of the lower's value v and the higher's value w
unfoldable pub place_of : ℕ → ℕ → ℕ
place_of v w = w + 7 - v

-- the gap at place k, as a signed byte: 249 is -7
unfoldable pub gap_byte : ℕ → ℕ
gap_byte k = (k + 249) % 256

-- ---- banned gaps

-- some of 1 to m passes
unfoldable pub some_to : ℕ → (ℕ → Bool) → Bool
some_to m p = is_some (lowest m 1 p)

-- of d values of the lower and e values of the higher, a pair that h names has the gap at place k
unfoldable pub has_gap : ℕ → ℕ → (ℕ → ℕ → Bool) → ℕ → Bool
has_gap d e h k = some_to d (λ v. some_to e (λ w. eqb (place_of v w) k && h v w))

-- "A gap is banned where a pair of owned slots that has it is banned"
unfoldable pub banned_gap : Problem → ℕ → ℕ → ℕ → Bool
banned_gap p i j = has_gap (domain p i) (domain p j) (banned p i j)

unfoldable pub free_gap : Problem → ℕ → ℕ → ℕ → Bool
free_gap p i j = has_gap (domain p i) (domain p j) (λ v w. not (banned p i j v w))

-- "two owned pairs of slots with equal gap, one banned and one free"
unfoldable pub mixed_gap : Problem → ℕ → ℕ → ℕ → Bool
mixed_gap p i j k = banned_gap p i j k && free_gap p i j k

-- no two agents have a gap of that kind
unfoldable pub sayable : Problem → Bool
sayable p =
    all_to p.count (λ j. all_to (pred j) (λ i. all_to gap_places (λ k. not (mixed_gap p i j (pred k)))))

-- ---- runs, where g says which places are banned gaps

-- a run begins at place k: it is banned, and the place below it is not
unfoldable pub begins : (ℕ → Bool) → ℕ → Bool
begins g k = g k && not (from_one false g k)

-- "taken as long as it goes": its last place, where it has come to place k and m places are above that
unfoldable pub last_from : ℕ → ℕ → (ℕ → Bool) → ℕ
last_from zero k g = k
last_from (suc m) k g = elim (g (suc k)) [ true ↦ last_from m (suc k) g | false ↦ k ]

unfoldable pub last_of : (ℕ → Bool) → ℕ → ℕ
last_of g k = last_from (pred gap_places - k) k g

-- the record of the run that begins at place k
unfoldable pub run_row : ℕ → ℕ → (ℕ → Bool) → ℕ → Row
run_row i j g k = record { lower = i; higher = j; low = gap_byte k; high = gap_byte (last_of g k) }

-- "one record for each unbroken run of banned gaps, upward"
unfoldable pub runs_of : ℕ → ℕ → (ℕ → Bool) → List Row
runs_of i j g = gather gap_places 0 (λ k. cond (begins g k) (run_row i j g k ∷ []) [])

unfoldable pub gap_rows : Problem → List Row
gap_rows p = over_pairs p.count (λ i j. runs_of i j (banned_gap p i j))
