-- The first rounds, or those of one sheet more. Assumes nothing.
use Rattle.season_figures.proofs.Counting.{first_rounds, more_rounds}
use Rattle.season_figures.proofs.figures.with_rounds.Goals as goal

pub returns-in-None : goal.returns-in-None
returns-in-None c = rw c.in-None.is (first_rounds c.args.n c.ranges.n.fits)

pub returns-in-Some : goal.returns-in-Some
returns-in-Some c =
    more_rounds _ _ _ _ _ _ _ c.in-Some.is c.saturating_add.ensures c.min.ensures c.max.ensures c.saturating_add-in-Some.ensures
