-- No figure of a list is above the number of its sheets, and no sum of rounds above 100,000 times that.
-- A sheet more raises each figure by one at most, and the sum by its rounds.
use Rattle.std.proofs.Common.{None, Option, Some, ℕ, suc, ◌+◌, ◌*◌, ◌≤◌, ◌≡◌, refl, ap, List, [], ◌∷◌, arith, length}
use Rattle.model_base.proofs.Tests.{test, eq_test}
use Rattle.model_network.specs.Run.{Ending, Unsolvable, Plan, Jammed, Open, Broken, one_if}
use Rattle.model_season.specs.Season.{season_rounds, Outcome, Refused, Ended, outcome, Rounds, Figures, no_figures, place, has_rounds, one_more, with_rounds, counting, with_outcome, figures_of}
use Rattle.model_season.specs.Claims.{Known, four, count_in, sum_in}
use Rattle.model_season.proofs.Outcomes.{each-known}

pub record Adds (m : ℕ) (f : Figures) : Type 0 where
  pub sheets : f.sheets ≡ m
  pub all : four f.refused + four f.words ≡ m
  pub mean : count_in f.rounds ≡ f.words 1 + f.words 2
  pub sum : sum_in f.rounds ≤ 100000 * m

-- ---- one more of four

four-more : (f : ℕ → ℕ) (k : ℕ) → 1 ≤ k → k ≤ 4 → four (one_more f k) ≡ suc (four f)
unfolding four one_more one_if
four-more f k l h =
    eq_test k 1 (λ e. rw e (omega arith)) (λ a.
    eq_test k 2 (λ e. rw e (omega arith)) (λ b.
    eq_test k 3 (λ e. rw e (omega arith)) (λ c.
    eq_test k 4 (λ e. rw e (omega arith)) (λ d. absurd (omega arith)))))

-- ---- the rounds

count-more : (n : ℕ) (r : Option Rounds) → count_in (with_rounds n r) ≡ suc (count_in r)
unfolding count_in with_rounds
count-more n None = refl
count-more n (Some r) = refl

sum_more : (n : ℕ) (r : Option Rounds) → sum_in (with_rounds n r) ≡ n + sum_in r
unfolding sum_in with_rounds
sum_more n None = omega arith
sum_more n (Some r) = refl

mean-more : (e : Ending) (n : ℕ) (r : Option Rounds) (w : ℕ → ℕ) → count_in r ≡ w 1 + w 2
    → count_in (counting e n r) ≡ one_more w (place e) 1 + one_more w (place e) 2
unfolding counting has_rounds place one_more one_if
mean-more Unsolvable n r w h = omega (arith, count-more n r)
mean-more Plan n r w h = omega (arith, count-more n r)
mean-more Jammed n r w h = omega arith
mean-more Open n r w h = omega arith
mean-more Broken n r w h = omega arith

sum_bound : (e : Ending) (n m : ℕ) (r : Option Rounds) → n ≤ 100000 → sum_in r ≤ 100000 * m → sum_in (counting e n r) ≤ 100000 * suc m
unfolding counting
sum_bound e n m r l h =
    test (has_rounds e) (λ t. rw (t, counting) (omega (arith, sum_more n r))) (λ t. rw (t, counting) (omega arith))

-- ---- a list

with-one : (o : Outcome) (m : ℕ) (f : Figures) → Known o → Adds m f → Adds (suc m) (with_outcome o f)
unfolding with_outcome season_rounds
with-one (Refused k) m f K A =
    record {
      sheets = ap suc A.sheets;
      all = omega (arith, four-more f.refused k K.0 K.1, A.all);
      mean = A.mean;
      sum = omega (arith, A.sum);
    }
with-one (Ended e n) m f K A =
    record {
      sheets = ap suc A.sheets;
      all = omega (arith, four-more f.words (place e) K.0 K.1, A.all);
      mean = mean-more e n f.rounds f.words A.mean;
      sum = sum_bound e n m f.rounds K.2 A.sum;
    }

pub adds : (sheets : List (List ℕ)) → Adds (length sheets) (figures_of sheets)
unfolding figures_of no_figures four count_in sum_in
adds [] = record { sheets = refl; all = refl; mean = refl; sum = omega arith }
adds (sheet ∷ more) = with-one (outcome sheet) (length more) (figures_of more) (each-known sheet) (adds more)
