-- Capping each time is capping once, and the figures of few sheets are capped nowhere.
-- A count raised twice is raised by both; and no count of a list is above the number of its sheets.
use Rattle.std.proofs.Common.{None, Option, Some, ℕ, suc, ◌+◌, ◌≤◌, ◌≡◌, refl, sym, ap, ◌∙◌, List, [], ◌∷◌, arith, eqb, length}
use mathlib.Core.Path.{fun_ext}
use Rattle.model_base.proofs.Tests.{test}
use Rattle.model_network.specs.Run.{Ending, one_if}
use Rattle.model_agent.specs.Traffic.{top, raised}
use Rattle.model_agent.proofs.Traffic.{Raised, exact, full, raises, raised-top}
use Rattle.model_season.specs.Season.{season_rounds, Outcome, Refused, Ended, outcome, Rounds, Figures, no_figures, place, has_rounds, one_more, with_rounds, counting, with_outcome, figures_of}
use Rattle.model_season.specs.Capped.{capped_rounds, capped_kinds, capped}
use Rattle.model_season.specs.Claims.{count_in, sum_in, CappedInTurn, NeverCapped}
use Rattle.model_season.proofs.Bounds.{adds}
use Rattle.model_season.proofs.Order.{counts-rounds, counts-none, one-more-sheet}

-- ---- one number

-- what is at most at the top stays as it is
pub raised_stays : (n : ℕ) → n ≤ top → raised 0 n ≡ n
raised_stays n h = go (raises 0 n)
  where
    go : Raised 0 n → raised 0 n ≡ n
    go (exact l e) = omega (arith, e)
    go (full l e) = absurd (omega arith)

raised-again : (n m : ℕ) → raised 0 (n + raised 0 m) ≡ raised 0 (n + m)
raised-again n m = go (raises 0 m) (raises 0 (n + raised 0 m)) (raises 0 (n + m))
  where
    go : Raised 0 m → Raised 0 (n + raised 0 m) → Raised 0 (n + m) → raised 0 (n + raised 0 m) ≡ raised 0 (n + m)
    go (exact u e) (exact v f) (exact w g) = omega arith
    go (exact u e) (exact v f) (full w g) = omega arith
    go (exact u e) (full v f) (exact w g) = omega arith
    go (exact u e) (full v f) (full w g) = omega arith
    go (full u e) (exact v f) (exact w g) = omega arith
    go (full u e) (exact v f) (full w g) = omega arith
    go (full u e) (full v f) (exact w g) = omega arith
    go (full u e) (full v f) (full w g) = omega arith

raised-more : (m n : ℕ) → raised 0 (raised 0 m + n) ≡ raised 0 (m + n)
raised-more m n =
    let e : raised 0 m + n ≡ n + raised 0 m = omega arith in
    let d : m + n ≡ n + m = omega arith in
    rw (e, d) (raised-again n m)

-- ---- figures

kinds-again : (f : ℕ → ℕ) (k : ℕ) → capped_kinds (one_more (capped_kinds f) k) ≡ capped_kinds (one_more f k)
unfolding capped_kinds one_more
kinds-again f k = fun_ext (λ j. raised-more (f j) (one_if (eqb j k)))

still-again : (f : ℕ → ℕ) → capped_kinds (capped_kinds f) ≡ capped_kinds f
unfolding capped_kinds
still-again f = fun_ext (λ j. raised_stays (raised 0 (f j)) (raised-top 0 (f j)))

suc-again : (n : ℕ) → raised 0 (suc (raised 0 n)) ≡ raised 0 (suc n)
suc-again n =
    let e : suc (raised 0 n) ≡ raised 0 n + 1 = omega arith in
    let d : suc n ≡ n + 1 = omega arith in
    rw (e, d) (raised-more n 1)

pub rounds_again : (r : Option Rounds) → capped_rounds (capped_rounds r) ≡ capped_rounds r
unfolding capped_rounds
rounds_again None = refl
rounds_again (Some r) = rw (raised_stays _ (raised-top 0 r.count), raised_stays _ (raised-top 0 r.sum))

more-again : (n : ℕ) (r : Option Rounds) → capped_rounds (with_rounds n (capped_rounds r)) ≡ capped_rounds (with_rounds n r)
unfolding capped_rounds with_rounds
more-again n None = refl
more-again n (Some r) = rw (suc-again r.count, raised-again n r.sum)

counting-again : (e : Ending) (n : ℕ) (r : Option Rounds) → capped_rounds (counting e n (capped_rounds r)) ≡ capped_rounds (counting e n r)
counting-again e n r =
    test (has_rounds e)
    (λ t. ap capped_rounds (counts-rounds e n _ t) ∙ more-again n r ∙ sym (ap capped_rounds (counts-rounds e n r t)))
    (λ t. ap capped_rounds (counts-none e n _ t) ∙ rounds_again r ∙ sym (ap capped_rounds (counts-none e n r t)))

outcome-again : (o : Outcome) (f : Figures) → capped (with_outcome o (capped f)) ≡ capped (with_outcome o f)
unfolding capped with_outcome
outcome-again (Refused k) f = rw (suc-again f.sheets, kinds-again f.refused k, still-again f.words, rounds_again f.rounds)
outcome-again (Ended e n) f = rw (suc-again f.sheets, kinds-again f.words (place e), still-again f.refused, counting-again e n f.rounds)

pub capped-in-turn : CappedInTurn
capped-in-turn sheets sheet = outcome-again (outcome sheet) (figures_of sheets) ∙ ap capped (sym (one-more-sheet sheets sheet))

-- ---- few sheets

record Few (m : ℕ) (f : Figures) : Type 0 where
  refused : (k : ℕ) → f.refused k ≤ m
  words : (k : ℕ) → f.words k ≤ m
  count : count_in f.rounds ≤ m

one-most : (f : ℕ → ℕ) (k j m : ℕ) → f j ≤ m → one_more f k j ≤ suc m
unfolding one_more one_if
one-most f k j m h = test (eqb j k) (λ e. rw e (omega arith)) (λ e. rw e (omega arith))

rounds-most : (n m : ℕ) (r : Option Rounds) → count_in r ≤ m → count_in (with_rounds n r) ≤ suc m
unfolding count_in with_rounds
rounds-most n m None h = omega arith
rounds-most n m (Some r) h = omega arith

count-most : (e : Ending) (n m : ℕ) (r : Option Rounds) → count_in r ≤ m → count_in (counting e n r) ≤ suc m
count-most e n m r h =
    test (has_rounds e) (λ t. rw (counts-rounds e n r t) (rounds-most n m r h)) (λ t. rw (counts-none e n r t) (omega arith))

few-more : (o : Outcome) (m : ℕ) (f : Figures) → Few m f → Few (suc m) (with_outcome o f)
unfolding with_outcome
few-more (Refused k) m f F =
    record { refused = λ j. one-most f.refused k j m (F.refused j); words = λ j. omega (arith, F.words j); count = omega (arith, F.count) }
few-more (Ended e n) m f F =
    record {
      refused = λ j. omega (arith, F.refused j);
      words = λ j. one-most f.words (place e) j m (F.words j);
      count = count-most e n m f.rounds F.count;
    }

few : (sheets : List (List ℕ)) → Few (length sheets) (figures_of sheets)
unfolding figures_of no_figures count_in
few [] = record { refused = λ k. omega arith; words = λ k. omega arith; count = omega arith }
few (sheet ∷ more) = few-more (outcome sheet) (length more) (figures_of more) (few more)

pub stays_rounds : (r : Option Rounds) → count_in r ≤ top → sum_in r ≤ top → capped_rounds r ≡ r
unfolding capped_rounds count_in sum_in
stays_rounds None c s = refl
stays_rounds (Some r) c s = rw (raised_stays r.count c, raised_stays r.sum s)

pub stays_kinds : (f : ℕ → ℕ) → ((k : ℕ) → f k ≤ top) → capped_kinds f ≡ f
unfolding capped_kinds
stays_kinds f h = fun_ext (λ k. raised_stays (f k) (h k))

pub never-capped : NeverCapped
unfolding capped season_rounds
never-capped sheets h =
    let F = few sheets in
    let A = adds sheets in
    rw (
      raised_stays (figures_of sheets).sheets (omega (arith, A.sheets)),
      stays_kinds (figures_of sheets).refused (λ k. omega (arith, F.refused k)),
      stays_kinds (figures_of sheets).words (λ k. omega (arith, F.words k)),
      stays_rounds (figures_of sheets).rounds (omega (arith, F.count)) (omega (arith, A.sum)),
    )
