-- `Gaps::band` is the set of the pairs with a gap from least to greatest.
-- The loop has the pairs of the gaps up to k - 8; each turn adds a diagonal.
use Rattle.model_sheet.specs.Row.{between}
use Rattle.sheet_records.proofs.Bands.{Upto}
use Rattle.sheet_records.proofs.gaps.Gaps.band.Given as goal

abbrev pub invariant-loop-k : goal.invariant-loop-k
invariant-loop-k l = Upto l.k (between l.self.least l.self.greatest) l.word
