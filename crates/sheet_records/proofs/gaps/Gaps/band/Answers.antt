-- `Gaps::band` is the set of the pairs with a gap from least to greatest.
-- The loop has the pairs of the gaps up to k - 8; each turn adds a diagonal.
use Rattle.model_sheet.specs.Row.{between}
use Rattle.sheet_records.proofs.Bands.{upto-none, upto-more}
use Rattle.sheet_records.proofs.gaps.Gaps.band.Goals as goal

pub loop-k-init : goal.loop-k-init
loop-k-init c = let q = c.args.self in upto-none (between q.least q.greatest)

pub loop-k-preserved : goal.loop-k-preserved
loop-k-preserved c =
    let l = c.loop-k in
    let q = c.args.self in
    upto-more (between q.least q.greatest) l.k l.word _ l.invariant c.hit-word.ensures
