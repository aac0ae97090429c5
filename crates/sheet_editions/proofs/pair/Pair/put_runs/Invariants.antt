-- `Pair::put_runs` puts down the runs.
-- After k turns those that begin before place k.
use Rattle.model_base.specs.Bits.{bit}
use Rattle.sheet_editions.specs.Rows.{run_in}
use Rattle.sheet_editions.proofs.Filling.{Gathered}
use Rattle.sheet_editions.proofs.pair.Pair.put_runs.Given as goal

abbrev pub invariant-loop-k : goal.invariant-loop-k
invariant-loop-k l = Gathered l.initial.rows (run_in l.self.lower l.self.higher (bit l.gaps.bits)) 0 l.k l.rows
