-- All the little sheets: from an ordinal to a sheet, and from a problem back to its ordinal. docs/PROGRAMS.md, 'All the little sheets'.
use Rattle.std.specs.Prelude.{ℕ, zero, suc, ◌+◌, ◌-◌, ◌*◌, ◌/◌, ◌%◌, ◌^◌, Bool, true, false, cond, List, [], ◌∷◌, ◌++◌, map, length, take, replicate, eqb, ltb}
use Rattle.model_base.specs.Finite.{gather}
use Rattle.model_base.specs.Same.{same_numbers}
use Rattle.model_sheet.specs.Problem.{Problem, max_agents, domain, banned, no_bans}
use Rattle.model_sheet.specs.Row.{Row}
use Rattle.model_sheet.specs.Writing.{written}

-- "4,996 in all"
unfoldable pub little_count : ℕ
little_count = 4996

-- "one to three scanners with one or two slots each"
unfoldable pub most_agents : ℕ
most_agents = 3

unfoldable pub most_values : ℕ
most_values = 2

-- ---- slot counts

-- those of n agents, "read as digits, scanner 1 first"
unfoldable pub counts_of : ℕ → List (List ℕ)
counts_of zero = [] ∷ []
counts_of (suc n) = gather most_values 1 (λ d. map (λ ds. d ∷ ds) (counts_of n))

-- "first by n; then by the slot counts"
unfoldable pub sizes : List (List ℕ)
sizes = gather most_agents 1 counts_of

-- the problem of these slot counts, with no ban
unfoldable pub bare : List ℕ → Problem
bare ds = record { count = length ds; domains = ds ++ replicate (max_agents - length ds) 0; bans = no_bans }

-- ---- sets of bans

-- the pairs of slots of lower agent i and higher agent j: "the lower's slot, then the higher's"
unfoldable pub pairs_of : Problem → ℕ → ℕ → List Row
pairs_of p i j =
    gather (domain p i) 1
    (λ v. gather (domain p j) 1 (λ w. record { lower = i; higher = j; low = v; high = w } ∷ []))

-- all that could be banned: "by the two scanners, 1 with 2, then 1 with 3, then 2 with 3"
unfoldable pub places : Problem → List Row
places p = gather p.count 1 (λ i. gather (p.count - i) (suc i) (pairs_of p i))

-- those of the rows whose bits are 1 in x, "from the lowest bit up"
unfoldable pub chosen : ℕ → List Row → List Row
chosen x [] = []
chosen x (row ∷ rows) = cond (eqb (x % 2) 1) (row ∷ []) [] ++ chosen (x / 2) rows

-- the number that has the bits of those rows that h names
unfoldable pub number_of : (Row → Bool) → List Row → ℕ
number_of h [] = 0
number_of h (row ∷ rows) = cond (h row) 1 0 + 2 * number_of h rows

-- how many sets of bans there are for these slot counts
unfoldable pub sets_of : List ℕ → ℕ
sets_of ds = 2 ^ length (places (bare ds))

-- ---- from an ordinal to a sheet

-- what a sheet says: slot counts, and the set of bans as a number
pub record Choice : Type 0 where
  pub counts : List ℕ
  pub bans : ℕ

-- "then by the set of bans, read as a binary number"
unfoldable pub choice_from : List (List ℕ) → ℕ → Choice
choice_from [] ordinal = record { counts = []; bans = 0 }
choice_from (ds ∷ more) ordinal =
    elim (ltb ordinal (sets_of ds)) [
      | true ↦ record { counts = ds; bans = ordinal }
      | false ↦ choice_from more (ordinal - sets_of ds)
    ]

-- "Records and chain run in that bit order."
unfoldable pub sheet_of : Choice → List ℕ
sheet_of c = written 1 (bare c.counts) (chosen c.bans (places (bare c.counts)))

unfoldable pub little_sheet : ℕ → List ℕ
little_sheet ordinal = sheet_of (choice_from sizes ordinal)

-- ---- and from a problem to its ordinal

unfoldable pub bans_row : Problem → Row → Bool
bans_row p row = banned p row.lower row.higher row.low row.high

unfoldable pub choice_of : Problem → Choice
choice_of p = record { counts = take p.count p.domains; bans = number_of (bans_row p) (places p) }

unfoldable pub ordinal_from : List (List ℕ) → Choice → ℕ
ordinal_from [] c = 0
ordinal_from (ds ∷ more) c =
    elim (same_numbers c.counts ds) [ true ↦ c.bans | false ↦ sets_of ds + ordinal_from more c ]

unfoldable pub ordinal_of : Problem → ℕ
ordinal_of p = ordinal_from sizes (choice_of p)
