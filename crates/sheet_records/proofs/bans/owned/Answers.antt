-- `owned` is the set of the pairs of the first d and the first e values.
-- By computation, for each of the eight counts of either agent.
use Rattle.sheet_records.proofs.Pairs.{lowers, highers, owned-pairs}
use Rattle.sheet_records.proofs.bans.owned.Goals as goal

pub returns : goal.returns
unfolding lowers highers
returns c = owned-pairs c.args.d c.args.e c.requires.0 c.requires.1 c.requires.2 c.requires.3
