-- The claims: there are 4,996 little sheets, the start accepts each, and each little problem is the problem of exactly one.
use Rattle.std.specs.Prelude.{ℕ, ◌+◌, ◌<◌, ◌≡◌, Bool, true, ◌&&◌, List, [], ◌∷◌, leb}
use Rattle.model_base.specs.Finite.{all_to}
use Rattle.model_sheet.specs.Problem.{Problem, domain, in_range}
use Rattle.model_sheet.specs.Sheet.{Valid, decode}
use Rattle.model_network.specs.Network.{is_rule, start_sheet}
use Rattle.model_little.specs.Little.{little_count, most_agents, most_values, counts_of, sizes, sets_of, little_sheet, ordinal_of}

-- "one to three scanners with one or two slots each"
unfoldable pub is_little : Problem → Bool
is_little p = in_range p && leb p.count most_agents && all_to p.count (λ i. leb (domain p i) most_values)

-- p is the problem of the sheet with this ordinal
pub record Says (ordinal : ℕ) (p : Problem) : Type 0 where
  pub below : ordinal < little_count
  pub valid : decode (little_sheet ordinal) ≡ Valid p

-- the sheets of all these slot counts
unfoldable pub total : List (List ℕ) → ℕ
total [] = 0
total (ds ∷ more) = sets_of ds + total more

-- "2 of one scanner, 26 of two and 4,968 of three, 4,996 in all"
abbrev pub Counted : Type 0
Counted = (total (counts_of 1) ≡ 2) × (total (counts_of 2) ≡ 26) × (total (counts_of 3) ≡ 4968) × (total sizes ≡ little_count)

-- each is accepted, and is the sheet of a problem of that size
abbrev pub Accepted : Type 0
Accepted = (ordinal : ℕ) → ordinal < little_count → (p : Problem) × (Says ordinal p) × (is_little p ≡ true)

-- "The start accepts every one of them, under either rule."
abbrev pub Starts : Type 0
Starts = (rule ordinal : ℕ) → is_rule rule ≡ true → ordinal < little_count → (start_sheet rule (little_sheet ordinal)).number ≡ 0

-- the ordinal of a problem, and of the problem of an ordinal: "none is left out, none comes twice"
abbrev pub Found : Type 0
Found = (p : Problem) → is_little p ≡ true → Says (ordinal_of p) p

abbrev pub Once : Type 0
Once = (ordinal : ℕ) (p : Problem) → Says ordinal p → ordinal_of p ≡ ordinal

-- "is the problem of exactly one of them"
abbrev pub ExactlyOne : Type 0
ExactlyOne =
    (p : Problem) → is_little p ≡ true → (ordinal : ℕ) × (Says ordinal p) × ((other : ℕ) → Says other p → other ≡ ordinal)
