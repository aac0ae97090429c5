-- The turn is what stands behind the place, and then what stands up to it.
use Rattle.std.proofs.Common.{sym, ◌∙◌}
use Rattle.abt_engine.proofs.Testing.{Good, good}
use Rattle.abt_dispatch.proofs.Turning.{from_start, behind, before, found-some}
use Rattle.abt_dispatch.proofs.turns.next_in_turn.Goals as goal

pub next-requires : goal.next-requires
next-requires c =
    let g : Good c.args.r.now.count c.args.place.from c.args.place.to = good _ _ _ (sym c.is_line.ensures ∙ c.if-is_line.true) in
    (record { low = g.from_low; high = g.from-high; first = g.to_low; last = g.to_high }, c.requires.1)

pub returns-then-is_some : goal.returns-then-is_some
returns-then-is_some c =
    behind _ _ _ (sym c.is_line.ensures ∙ c.if-is_line.true) _ c.next.ensures.same _ (found-some _ _ ∙ sym c.is_some.ensures ∙ c.if-is_some.true) c.first_from-behind.ensures

pub returns-else-is_some : goal.returns-else-is_some
returns-else-is_some c =
    before _ _ _ (sym c.is_line.ensures ∙ c.if-is_line.true) _ c.next.ensures.same _ (found-some _ _ ∙ sym c.is_some.ensures ∙ c.if-is_some.false)
    c.first_from-behind.ensures _ c.first_from.ensures

pub returns-else-is_line : goal.returns-else-is_line
returns-else-is_line c = from_start _ _ _ _ c.requires.0 (sym c.is_line.ensures ∙ c.if-is_line.false) c.first_from-else-is_line.ensures
