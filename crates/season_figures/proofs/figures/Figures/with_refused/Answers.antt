-- The sheets and one of the refused are counted; words and rounds stay. Assumes nothing.
use Rattle.std.proofs.Common.{rules, get_or, Fits, w64, ℕ}
use Rattle.season_figures.proofs.Counting.{SmallRounds, kept_rounds}
use Rattle.season_figures.proofs.Adding.{refused_more}
use Rattle.season_figures.proofs.figures.Figures.with_refused.Goals as goal

pub returns : goal.returns
returns c =
    let f = c.args.self in
    let fits : (i : ℕ) → Fits w64 (get_or f.words i 0) = λ i. search rules in
    let small : SmallRounds f.rounds = λ r e. let w = rw e at c.well_formed in let n : Fits w64 r.count = search rules in let m : Fits w64 r.sum = search rules in (n.fits, m.fits) in
    refused_more f _ c.saturating_add.ensures (kept_rounds f.rounds small) _ _ (λ i. (fits i).fits) (rw c.number.ensures at c.counted.ensures)
