-- The place of the kind is one more, or stays at the greatest number; the others stay. Assumes nothing.
use Rattle.std.proofs.Common.{rules, get_or, Fits, w64, ℕ}
use Rattle.season_figures.proofs.Counting.{counts_one}
use Rattle.season_figures.proofs.figures.counted.Goals as goal

pub returns : goal.returns
returns c =
    let fits : (i : ℕ) → Fits w64 (get_or c.args.four i 0) = λ i. search rules in
    counts_one c.args.four c.args.k _ c.requires.0 (search rules) (λ i. (fits i).fits) c.saturating_add.ensures
