-- `Pair::put_rows` puts down the records of two agents.
-- Their banned pairs, or the runs of their gaps.
use Rattle.std.proofs.Common.{ap}
use Rattle.sheet_writer.specs.Editions.{number_of}
use Rattle.sheet_editions.specs.Pairs.{in_word}
use Rattle.sheet_editions.proofs.Words.{rows-of-bans, rows-of-gaps}
use Rattle.sheet_editions.proofs.pair.Pair.put_rows.Goals as goal

pub put_pairs-requires : goal.put_pairs-requires
put_pairs-requires c = rw (rows-of-bans _ _ _ _ _ _ (ap number_of c.in-Bans.is)) at c.requires

pub returns-in-Bans : goal.returns-in-Bans
returns-in-Bans c = rw (rows-of-bans _ _ _ _ _ _ (ap number_of c.in-Bans.is)) c.put_pairs.ensures

pub put_runs-requires : goal.put_runs-requires
unfolding in_word
put_runs-requires c = rw (rows-of-gaps _ _ _ _ _ _ (ap number_of c.in-Gaps.is) _ c.gaps.ensures) at c.requires

pub returns-in-Gaps : goal.returns-in-Gaps
unfolding in_word
returns-in-Gaps c = rw (rows-of-gaps _ _ _ _ _ _ (ap number_of c.in-Gaps.is) _ c.gaps.ensures) c.put_runs.ensures
