-- `Pair::put_runs` puts down the runs.
-- After k turns those that begin before place k.
use Rattle.std.proofs.Common.{refl, arith}
use Rattle.model_editions.specs.Gaps.{gap_places, runs_of}
use Rattle.sheet_editions.specs.Rows.{run_in}
use Rattle.sheet_editions.proofs.Filling.{none_gathered, gather-room, gather-more, all-gathered}
use Rattle.sheet_editions.proofs.pair.Pair.put_runs.Goals as goal

pub loop-k-init : goal.loop-k-init
loop-k-init c = none_gathered _ _ 0 0 refl

pub put_run-requires : goal.put_run-requires
unfolding runs_of gap_places run_in
put_run-requires c = let l = c.loop-k in (omega arith, gather-room l.invariant 15 l.k (omega arith) (omega arith) c.requires)

pub loop-k-preserved : goal.loop-k-preserved
loop-k-preserved c = let l = c.loop-k in gather-more l.invariant l.k _ c.put_run.ensures (omega arith) refl

pub returns : goal.returns
unfolding runs_of gap_places run_in
returns c = all-gathered c.loop-k.invariant 15 (omega arith)
