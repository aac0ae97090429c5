-- `is_empty` says whether a post is left.
use Rattle.std.proofs.Common.{refl}
use Rattle.abt_agent.specs.Posting.{none_left}
use Rattle.abt_agent.proofs.Cursor.{none_left_lem, nothing}
use Rattle.abt_agent.proofs.Outbox.is_empty.Goals as goal

pub returns : goal.returns
unfolding none_left
returns c = (
  refl,
  λ e backs r. let n = none_left_lem c.args.self e in nothing c.args.self backs r n.0 n.2 n.1,
)
