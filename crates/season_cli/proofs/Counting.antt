-- What is told behind a piece is what progress has more then.
-- A thousand is full exactly where the count is a multiple of it.
use Rattle.std.proofs.Common.{ℕ, suc, ◌+◌, ◌*◌, ◌/◌, ◌%◌, ◌≡◌, Bool, true, false, List, ◌++◌, length, refl, sym, ap, ◌∙◌, append-nil, arith, eqb, eqb-true}
use borrow.Author.Tests.{eqb-false}
use Rattle.model_base.proofs.Tests.{test}
use Rattle.model_base.proofs.Lists.{gather-last}
use Rattle.model_season.specs.Season.{Figures as Figures', figures_of as figures_of'}
use Rattle.model_season.proofs.Theorems.{add-up}
use Rattle.season_figures.specs.declared.figures.Figures.{Figures}
use Rattle.season_figures.specs.declared.stream.Season.{Season}
use Rattle.season_figures.specs.Abstract.{figures_of}
use Rattle.season_figures.specs.Pieces.{is_over}
use Rattle.season_cli.specs.Answers.{progress_line, progress, told}
use Rattle.season_cli.specs.Pieces.{due, progress_behind}

line-more : (n : ℕ) → suc n % 1000 ≡ 0 → progress (suc n) ≡ progress n ++ progress_line (suc n)
unfolding progress
line-more n z =
    let d : suc n / 1000 ≡ suc (n / 1000) = omega arith in
    let k : 1000 * (1 + n / 1000) ≡ suc n = omega arith in
    rw (d, gather-last (n / 1000) 1 (λ k. progress_line (1000 * k)), k) refl

no-more : (n : ℕ) → (suc n % 1000 ≡ 0 → ⊥) → progress (suc n) ≡ progress n
unfolding progress
no-more n z = let d : suc n / 1000 ≡ n / 1000 = omega arith in rw d refl

module _ (s r : Season) where
  due-going : is_over r.reading ≡ false → due true r ≡ eqb (r.figures.sheets % 1000) 0
  unfolding due
  due-going o = rw o refl

  due-over : (tells : Bool) → is_over r.reading ≡ true → due tells r ≡ false
  unfolding due
  due-over true o = rw o refl
  due-over false o = refl

  -- behind a whole sheet
  pub told-more : (tells : Bool) → is_over r.reading ≡ false → r.figures.sheets ≡ suc s.figures.sheets
      → told tells r.figures.sheets ≡ told tells s.figures.sheets ++ progress_behind tells r
  unfolding progress_behind due
  told-more false o e = refl
  told-more true o e =
      test (eqb (r.figures.sheets % 1000) 0)
      (λ t. let z : suc s.figures.sheets % 1000 ≡ 0 = rw e at (eqb-true _ _ t) in
      rw (due-going o ∙ t, progress_behind) (rw e (line-more s.figures.sheets z)))
      (λ t. let z : suc s.figures.sheets % 1000 ≡ 0 → ⊥ = rw e at (eqb-false (r.figures.sheets % 1000) 0 t) in
      rw (due-going o ∙ t, progress_behind) (rw e (no-more s.figures.sheets z ∙ sym (append-nil _))))

  -- where reading is over
  pub told-still : (tells : Bool) → is_over r.reading ≡ true → r.figures ≡ s.figures
      → told tells r.figures.sheets ≡ told tells s.figures.sheets ++ progress_behind tells r
  unfolding progress_behind
  told-still tells o e =
      rw (due-over tells o, progress_behind) (ap (λ (f : Figures). told tells f.sheets) e ∙ sym (append-nil _))

pub sheets-are : (f : Figures) (sheets : List (List ℕ)) → figures_of f ≡ figures_of' sheets → f.sheets ≡ length sheets
unfolding figures_of
sheets-are f sheets e = ap (λ (x : Figures'). x.sheets) e ∙ (add-up sheets).0
