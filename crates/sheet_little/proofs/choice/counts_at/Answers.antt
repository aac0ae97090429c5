-- `counts_at` has the slot counts at place k.
-- In each of the three stretches by computation.
use Rattle.std.proofs.Common.{arith}
use Rattle.sheet_little.proofs.Counts.{one-agent, of_two, of_three}
use Rattle.sheet_little.proofs.choice.counts_at.Goals as goal

pub returns-then-k-lt2 : goal.returns-then-k-lt2
returns-then-k-lt2 c = one-agent _ (omega arith)

pub returns-then-k-lt6 : goal.returns-then-k-lt6
returns-then-k-lt6 c = of_two _ (omega arith) (omega arith)

pub returns-else-k-lt6 : goal.returns-else-k-lt6
returns-else-k-lt6 c = of_three _ (omega arith) (omega arith)
