-- `bans_of` lists the pairs of a set of bans.
-- Those put down, and behind them what the bits left choose from the pair at hand on.
use Rattle.std.proofs.Common.{◌≤◌, length}
use Rattle.model_little.specs.Little.{chosen}
use Rattle.sheet_little.specs.Rows.{rows_from}
use Rattle.sheet_little.proofs.Pairs.{Going}
use Rattle.sheet_little.proofs.rows.bans_of.Given as goal

abbrev pub invariant-loop-k : goal.invariant-loop-k
invariant-loop-k l = (length l.rows ≤ l.k) × Going l.c (chosen l.bans (rows_from l.c 0)) l.rows l.k l.left
