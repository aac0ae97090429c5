-- The sheets and one of the words are counted; the refused stay. Assumes nothing.
use Rattle.std.proofs.Common.{rules, get_or, Fits, w64, ℕ}
use Rattle.season_figures.proofs.Counting.{SmallRounds, kept_rounds}
use Rattle.season_figures.proofs.Adding.{word_more}
use Rattle.season_figures.proofs.figures.Figures.with_word.Goals as goal

pub returns : goal.returns
returns c =
    let f = c.args.self in
    let fits : (i : ℕ) → Fits w64 (get_or f.refused i 0) = λ i. search rules in
    let small : SmallRounds c.args.rounds = λ r e. let w = rw e at c.well_formed in let n : Fits w64 r.count = search rules in let m : Fits w64 r.sum = search rules in (n.fits, m.fits) in
    word_more f _ _ _ c.args.rounds c.saturating_add.ensures (λ i. (fits i).fits) (kept_rounds c.args.rounds small) (rw c.place.ensures.0 at c.counted.ensures)
