-- The sheet of a choice is accepted, and says a little problem that has that choice.
-- The rows chosen are good; what is written of them is read back, and the number of what it bans is the number that chose.
use Rattle.std.proofs.Common.{◌≤◌, ◌≡◌, refl, subst, ◌∙◌, inl, inr, true, List, [], ◌∷◌, arith, length, take, take_at, leb, leb-true, le-leb}
use Rattle.model_base.specs.Finite.{gather, every}
use Rattle.model_base.proofs.Tests.{to_both, to-within}
use Rattle.model_base.proofs.Search.{to-all_to}
use Rattle.model_base.proofs.Lists.{All, Any, All-map, every-all}
use Rattle.model_sheet.specs.Problem.{Problem, max_agents, domain, with_table, no_bans}
use Rattle.model_sheet.specs.Row.{Row, row_good, with_rows}
use Rattle.model_sheet.specs.Sheet.{Valid, max_records, decode}
use Rattle.model_sheet.proofs.Range.{Ranged, to-range}
use Rattle.model_sheet.proofs.Rows.{rows-ranged}
use Rattle.model_sheet.proofs.Writing.{writing-decodes, writing-bans}
use Rattle.model_little.specs.Little.{most_agents, most_values, counts_of, sizes, bare, pairs_of, places, chosen, number_of, sets_of, Choice, sheet_of, bans_row, choice_of}
use Rattle.model_little.specs.Claims.{is_little}
use Rattle.model_little.proofs.Subsets.{among, chosen-few, chosen-every, number-as, number-chosen}
use Rattle.model_little.proofs.Sizes.{Sized, sizes-fit, bare-domain, bare-in-range}
use Rattle.model_little.proofs.Places.{places-good, places-unlike}
use Rattle.model_little.proofs.Choices.{Listed}
use Rattle.model_little.proofs.Rows.{rows-among, rows-kept, same-places, same-domain}

-- what holds of all holds of one
pub of-all : {A : Type 0} (P : A → Type 0) (a : A) (l : List A) → Any (λ x. x ≡ a) l → All P l → P a
of-all P a [] h g = absurd h
of-all P a (x ∷ xs) (inl e) g = subst P e g.0
of-all P a (x ∷ xs) (inr h) g = of-all P a xs h g.1

all-few : every (λ ds. leb (length (places (bare ds))) max_records) sizes ≡ true
unfolding every sizes gather most_agents counts_of most_values places bare max_agents max_records pairs_of domain
all-few = refl

few-places : All (λ ds. length (places (bare ds)) ≤ max_records) sizes
few-places = All-map _ _ (λ ds e. leb-true (length (places (bare ds))) max_records e) sizes (every-all _ sizes all-few)

unfoldable pub rows_of : Choice → List Row
rows_of c = chosen c.bans (places (bare c.counts))

unfoldable pub problem_of : Choice → Problem
problem_of c = with_rows 1 (rows_of c) (bare c.counts)

module _ (c : Choice) (h : Listed sizes c) where
  sized : Sized c.counts
  sized = of-all Sized c.counts sizes h.counts sizes-fit

  range : Ranged (bare c.counts)
  range = bare-in-range c.counts sized

  all-good : every (row_good 1 (bare c.counts)) (rows_of c) ≡ true
  unfolding rows_of
  all-good = chosen-every _ c.bans _ (places-good (bare c.counts))

  pub sheet-decodes : decode (sheet_of c) ≡ Valid (problem_of c)
  unfolding with_table bare sheet_of rows_of problem_of
  sheet-decodes =
      writing-decodes 1 (bare c.counts) (rows_of c) (to-within 2 1 (omega arith) (omega arith)) (to-range _ range) all-good
      (omega (arith, chosen-few c.bans (places (bare c.counts)), of-all _ c.counts sizes h.counts few-places))

  pub problem-ranged : Ranged (problem_of c)
  unfolding with_table bare problem_of
  problem-ranged = rows-ranged 1 (rows_of c) (bare c.counts) no_bans range all-good

  pub problem-bans : (r : Row) → bans_row (problem_of c) r ≡ among r (rows_of c)
  unfolding with_table bare bans_row problem_of
  problem-bans r =
      writing-bans 1 (bare c.counts) (rows_of c) (to-within 2 1 (omega arith) (omega arith)) (to-range _ range) all-good r.lower r.higher r.low r.high
      ∙ rows-among (bare c.counts) r (rows_of c) all-good

  pub kept : ((problem_of c).count ≡ (bare c.counts).count) × ((problem_of c).domains ≡ (bare c.counts).domains)
  unfolding problem_of
  kept = rows-kept (rows_of c) (bare c.counts)

  pub choice-again : choice_of (problem_of c) ≡ c
  unfolding bare choice_of rows_of sets_of
  choice-again =
      let all = places (bare c.counts) in
      let counts : take (problem_of c).count (problem_of c).domains ≡ c.counts = rw (kept.0, kept.1) (take_at c.counts _ (length c.counts) refl) in
      let bans : number_of (bans_row (problem_of c)) (places (problem_of c)) ≡ c.bans =
      rw (same-places (bare c.counts) (problem_of c) kept.0 kept.1)
      (number-as _ (λ r. among r (rows_of c)) all problem-bans ∙ number-chosen c.bans all (places-unlike (bare c.counts)) h.bans) in
      λ i. record { counts = counts i; bans = bans i }

  pub problem-little : is_little (problem_of c) ≡ true
  unfolding is_little bare
  problem-little =
      let count : (problem_of c).count ≡ length c.counts = kept.0 in
      to_both _ _ (to_both _ _ (to-range _ problem-ranged) (le-leb (problem_of c).count most_agents (rw count sized.high)))
      (to-all_to _ _ (λ i l u.
      let b = bare-domain c.counts sized i l (rw count at u) in
      le-leb (domain (problem_of c) i) most_values (rw (same-domain (bare c.counts) (problem_of c) i kept.0 kept.1) b.1)))
