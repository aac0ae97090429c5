-- `bans_of` lists the pairs of a set of bans.
-- Those put down, and behind them what the bits left choose from the pair at hand on.
use Rattle.std.proofs.Common.{sym, ◌∙◌, add-one, arith}
use Rattle.sheet_little.proofs.Pairs.{going-skipped, going-owned, going-ends}
use Rattle.sheet_little.proofs.rows.bans_of.Goals as goal
use Rattle.sheet_little.proofs.rows.bans_of.Goals.{else-owned, then-owned}

pub loop-k-preserved : goal.loop-k-preserved
loop-k-preserved c =
    let l = c.loop-k in
    let own = sym c.owned.ensures in
    elim c.if-owned.branch [
      | then-owned u ↦ let put = rw u.row_at.ensures at u.put_ban.ensures in
          rw (add-one l.k, u.rows-is, u.left-is) (
            omega (arith, put.1, l.invariant.0),
            going-owned _ _ l.rows l.k l.left (omega arith) l.invariant.1 (own ∙ u.if-owned.true) _ put.0,
          )
      | else-owned u ↦ rw (add-one l.k, u.rows-is, u.left-is) (
        omega (arith, l.invariant.0),
        going-skipped _ _ l.rows l.k l.left (omega arith) l.invariant.1 (own ∙ u.if-owned.false),
      )
    ]

pub returns : goal.returns
returns c = let l = c.loop-k in going-ends _ _ _ l.k l.left (omega arith) l.invariant.1
