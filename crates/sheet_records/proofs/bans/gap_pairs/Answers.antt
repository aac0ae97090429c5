-- `gap_pairs` is the set of the owned pairs with one of these gaps.
-- What the calls give, put together.
use Rattle.sheet_records.proofs.Pairs.{common}
use Rattle.sheet_records.proofs.bans.gap_pairs.Goals as goal

pub returns : goal.returns
returns c = common c.owned.ensures c.band.ensures
