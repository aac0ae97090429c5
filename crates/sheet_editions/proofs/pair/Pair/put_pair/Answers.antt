-- `Pair::put_pair` puts down a pair that the word has.
-- One row more, or none.
use Rattle.std.proofs.Common.{sym, ◌∙◌, arith}
use Rattle.sheet_editions.specs.Rows.{pair_in}
use Rattle.sheet_editions.proofs.Filling.{one-room, put-down, left_out}
use Rattle.sheet_editions.proofs.pair.Pair.put_pair.Goals as goal

pub push-requires : goal.push-requires
unfolding pair_in
push-requires c = (omega arith, one-room _ _ _ (sym c.bans.ensures ∙ c.if-bans.true) c.requires.4)

pub returns-then-bans : goal.returns-then-bans
unfolding pair_in
returns-then-bans c = put-down _ _ _ _ (sym c.bans.ensures ∙ c.if-bans.true) (rw c.row.ensures at c.push.ensures)

pub returns-else-bans : goal.returns-else-bans
unfolding pair_in
returns-else-bans c = left_out _ _ _ (sym c.bans.ensures ∙ c.if-bans.false)
