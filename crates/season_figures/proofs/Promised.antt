-- What the figures tell of the sheets: a sheet that ends with a word is of a problem, and of its one run the claims about lists of calls speak.
-- A count grows only where the sheet ended so; and a list's counts are counts of such sheets.
use Rattle.std.proofs.Common.{None, Option, Some, ℕ, suc, ◌+◌, ◌≤◌, ◌<◌, ◌≡◌, refl, sym, ap, subst, ◌∙◌, List, [], ◌∷◌, ◌++◌, arith, eqb, eqb-true}
use mathlib.Core.Bool.{false≢true}
use Rattle.model_base.specs.Finite.{within}
use Rattle.model_base.specs.Lists.{All}
use Rattle.model_base.proofs.Tests.{test}
use Rattle.model_agent.specs.Traffic.{raised}
use Rattle.model_agent.proofs.Traffic.{Raised, exact, full, raises}
use Rattle.model_sheet.specs.Problem.{Problem}
use Rattle.model_sheet.specs.Sheet.{Decoded, Valid, Invalid, BadLength, BadHeader, BadRecord, Cycle, fault_number, decode}
use Rattle.model_network.specs.Network.{start, is_rule, started_on, start_sheet}
use Rattle.model_network.specs.Run.{Ending, Unsolvable, Plan, Jammed, Open, Broken, one_if, run}
use Rattle.theorems_network.specs.Calls.{left_by_all, made_by_all}
use Rattle.theorems_network.specs.Claims.{most_rounds, slots_of, Tells}
use Rattle.theorems_network.proofs.Theorems.{sheet-run-tells}
use Rattle.model_season.specs.Season.{season_rule, season_rounds, Outcome, Refused, Ended, outcome_by, outcome, Rounds as Rounds', Figures as Figures', no_figures, place, has_rounds, one_more, with_rounds, counting, with_outcome, figures_of as figures_of'}
use Rattle.model_season.specs.Capped.{capped_rounds, capped_kinds, capped}
use Rattle.model_season.specs.Claims.{sum_in}
use Rattle.model_season.proofs.Order.{counts-rounds, counts-none}
use Rattle.season_figures.specs.declared.figures.Figures.{Figures}
use Rattle.season_figures.specs.Abstract.{kinds, rounds_of, figures_of, CountsSheet}
use Rattle.season_figures.specs.Promised.{slots_left, OutcomeTells, Planned, Hopeless, CountTells, SoMany, CountsTell}

-- ---- one sheet

refused-ended : (k n : ℕ) (e : Ending) → Refused k ≡ Ended e n → ⊥
refused-ended k n e q = false≢true cc

-- what one run tells, said of its word and its rounds
told-as : (p : Problem) (slots : ℕ → ℕ) (d e : Ending) (m n : ℕ) → Ended d m ≡ Ended e n → Tells p 0 d m slots → Tells p 0 e n slots
told-as p slots d e m n q T =
    let he : d ≡ e = cc in
    let hn : m ≡ n = cc in
    subst (λ (x : Ending). Tells p 0 x n slots) he (subst (λ (x : ℕ). Tells p 0 d x slots) hn T)

tells-of : (sheet : List ℕ) (d : Decoded) → decode sheet ≡ d
    → (e : Ending) (n : ℕ) → outcome_by (started_on 1 d).number (run 100000 (started_on 1 d).network) ≡ Ended e n
    → (p : Problem) × (decode sheet ≡ Valid p) × Tells p 0 e n (slots_of (run 100000 (started_on 1 d).network).network)
unfolding started_on outcome_by fault_number is_rule within left_by_all made_by_all
tells-of sheet (Valid p) v e n h =
    let r = run 100000 (start 1 p) in
    (p, v, told-as p (slots_of r.network) r.ending e r.made n h (sheet-run-tells 1 refl sheet p v [] 100000))
tells-of sheet (Invalid BadLength) v e n h = absurd (refused-ended _ n e h)
tells-of sheet (Invalid BadHeader) v e n h = absurd (refused-ended _ n e h)
tells-of sheet (Invalid BadRecord) v e n h = absurd (refused-ended _ n e h)
tells-of sheet (Invalid Cycle) v e n h = absurd (refused-ended _ n e h)

pub outcome-tells : (sheet : List ℕ) → OutcomeTells sheet
unfolding outcome season_rule season_rounds start_sheet is_rule within slots_left
outcome-tells sheet e n h = tells-of sheet (decode sheet) refl e n h

pub all-tell : (sheets : List (List ℕ)) → All OutcomeTells sheets
all-tell [] = tt
all-tell (sheet ∷ more) = (outcome-tells sheet, all-tell more)

-- what ended with the word of a place, by that place
ended-hopeless : (sheet : List ℕ) (e : Ending) (n : ℕ) → outcome sheet ≡ Ended e n → place e ≡ 1 → Hopeless sheet
unfolding place
ended-hopeless sheet Unsolvable n h q = let t = outcome-tells sheet Unsolvable n h in (t.0, t.1, t.2.none refl)
ended-hopeless sheet Plan n h q = absurd (omega arith)
ended-hopeless sheet Jammed n h q = absurd (omega arith)
ended-hopeless sheet Open n h q = absurd (omega arith)
ended-hopeless sheet Broken n h q = absurd (omega arith)

ended-planned : (sheet : List ℕ) (e : Ending) (n : ℕ) → outcome sheet ≡ Ended e n → place e ≡ 2 → Planned sheet
unfolding place
ended-planned sheet Unsolvable n h q = absurd (omega arith)
ended-planned sheet Plan n h q = let t = outcome-tells sheet Plan n h in (t.0, t.1, t.2.plan refl)
ended-planned sheet Jammed n h q = absurd (omega arith)
ended-planned sheet Open n h q = absurd (omega arith)
ended-planned sheet Broken n h q = absurd (omega arith)

-- ---- a count that grows

raised-most : (n : ℕ) → raised 0 n ≤ n
raised-most n = go (raises 0 n)
  where
    go : Raised 0 n → raised 0 n ≤ n
    go (exact l e) = omega arith
    go (full l e) = omega arith

one-grown : (f : ℕ → ℕ) (k w : ℕ) → f w < capped_kinds (one_more f k) w → k ≡ w
unfolding capped_kinds one_more one_if
one-grown f k w h =
    test (eqb w k) (λ t. sym (eqb-true w k t))
    (λ t. let m : raised 0 (f w + 0) ≤ f w + 0 = raised-most (f w + 0) in let g : f w < raised 0 (f w + 0) = rw t at h in absurd (omega arith))

none-grown : (f : ℕ → ℕ) (w : ℕ) → f w < capped_kinds f w → ⊥
unfolding capped_kinds
none-grown f w h = omega (arith, raised-most (f w))

-- the word of the sheet's outcome is that under which the count has grown
grown : (P : List ℕ → Type 0) (w : ℕ) (sheet : List ℕ) (f : Figures') → ((e : Ending) (n : ℕ) → outcome sheet ≡ Ended e n → place e ≡ w → P sheet)
    → (o : Outcome) → outcome sheet ≡ o → f.words w < (capped (with_outcome o f)).words w → P sheet
unfolding capped with_outcome
grown P w sheet f holds (Refused k) q h = absurd (none-grown f.words w h)
grown P w sheet f holds (Ended e n) q h = holds e n q (one-grown f.words (place e) w h)

still-sum : (r : Option Rounds') → sum_in (capped_rounds r) ≤ sum_in r
unfolding sum_in capped_rounds
still-sum None = omega arith
still-sum (Some r) = raised-most r.sum

more-sum : (n : ℕ) (r : Option Rounds') → sum_in (capped_rounds (with_rounds n r)) ≤ sum_in r + n
unfolding sum_in capped_rounds with_rounds
more-sum n None = omega (arith, raised-most n)
more-sum n (Some r) = omega (arith, raised-most (n + r.sum))

sum-grown : (e : Ending) (n : ℕ) (r : Option Rounds') → sum_in (capped_rounds (counting e n r)) ≤ sum_in r + n
sum-grown e n r =
    test (has_rounds e) (λ t. rw (counts-rounds e n r t) (more-sum n r))
    (λ t. rw (counts-none e n r t) (omega (arith, still-sum r)))

one_problem : (sheet : List ℕ) (p q : Problem) → decode sheet ≡ Valid p → decode sheet ≡ Valid q → p ≡ q
one_problem sheet p q h k = let e : Valid p ≡ Valid q = sym h ∙ k in cc

sum-by : (sheet : List ℕ) (f : Figures') (o : Outcome) → outcome sheet ≡ o → (p : Problem) → decode sheet ≡ Valid p
    → sum_in (capped (with_outcome o f)).rounds ≤ sum_in f.rounds + most_rounds p
unfolding capped with_outcome
sum-by sheet f (Refused k) q p v = omega (arith, still-sum f.rounds)
sum-by sheet f (Ended e n) q p v =
    let t = outcome-tells sheet e n q in
    let l : 0 + n ≤ most_rounds p = subst (λ (x : Problem). 0 + n ≤ most_rounds x) (one_problem sheet t.0 p t.1 v) t.2.few in
    omega (arith, sum-grown e n f.rounds)

pub count-tells : (f r : Figures) (sheet : List ℕ) → CountsSheet f sheet r → CountTells f sheet r
unfolding figures_of
count-tells f r sheet C =
    let words : (w : ℕ) → kinds r.words w ≡ (capped (with_outcome (outcome sheet) (figures_of f))).words w = λ w. ap (λ (x : Figures'). x.words w) C in
    let sum : sum_in (rounds_of r.rounds) ≡ sum_in (capped (with_outcome (outcome sheet) (figures_of f))).rounds = ap (λ (x : Figures'). sum_in x.rounds) C in
    record {
      none = λ h. grown Hopeless 1 sheet (figures_of f) (ended-hopeless sheet) (outcome sheet) refl (rw (words 1) at h);
      plan = λ h. grown Planned 2 sheet (figures_of f) (ended-planned sheet) (outcome sheet) refl (rw (words 2) at h);
      sum = λ p v. rw sum (sum-by sheet (figures_of f) (outcome sheet) refl p v);
    }

-- ---- a list of sheets

module _ (P : List ℕ → Type 0) (w : ℕ) (holds : (sheet : List ℕ) (e : Ending) (n : ℕ) → outcome sheet ≡ Ended e n → place e ≡ w → P sheet) where
  none-more : (sheet : List ℕ) (more : List (List ℕ)) (k : ℕ) → SoMany P k more → SoMany P k (sheet ∷ more)
  none-more sheet more k S =
      record { those = S.those; others = sheet ∷ S.others; parts = (S.those, S.others, refl, S.parts); number = S.number; each = S.each }

  one-more : (sheet : List ℕ) (more : List (List ℕ)) (k : ℕ) → P sheet → SoMany P k more → SoMany P (suc k) (sheet ∷ more)
  one-more sheet more k h S =
      record { those = sheet ∷ S.those; others = S.others; parts = ([], S.those ++ S.others, refl, S.parts); number = ap suc S.number; each = (h, S.each) }

  more-by : (sheet : List ℕ) (more : List (List ℕ)) (o : Outcome) → outcome sheet ≡ o → (f : Figures') → SoMany P (f.words w) more
      → SoMany P ((with_outcome o f).words w) (sheet ∷ more)
  unfolding with_outcome one_more one_if
  more-by sheet more (Refused k) q f S = none-more sheet more _ S
  more-by sheet more (Ended e n) q f S =
      test (eqb w (place e))
      (λ t. let s : f.words w + 1 ≡ suc (f.words w) = omega arith in
      rw (t, one_if, s) (one-more sheet more _ (holds sheet e n q (sym (eqb-true w (place e) t))) S))
      (λ t. let s : f.words w + 0 ≡ f.words w = omega arith in rw (t, one_if, s) (none-more sheet more _ S))

  so-many : (sheets : List (List ℕ)) → SoMany P ((figures_of' sheets).words w) sheets
  unfolding figures_of' no_figures
  so-many [] = record { those = []; others = []; parts = refl; number = refl; each = tt }
  so-many (sheet ∷ more) = more-by sheet more (outcome sheet) refl (figures_of' more) (so-many more)

pub counts-tell : (sheets : List (List ℕ)) (f : Figures) → figures_of f ≡ figures_of' sheets → CountsTell sheets f
unfolding figures_of
counts-tell sheets f e =
    let words : (w : ℕ) → kinds f.words w ≡ (figures_of' sheets).words w = λ w. ap (λ (x : Figures'). x.words w) e in
    record {
      none = rw (words 1) (so-many Hopeless 1 ended-hopeless sheets);
      plan = rw (words 2) (so-many Planned 2 ended-planned sheets);
    }
