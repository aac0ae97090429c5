-- `put_ban` puts down a pair, if its bit is 1.
-- One row more, or none.
use Rattle.std.proofs.Common.{sym, ap, append-nil, arith, length, length-append, eq-eqb, ne_eqb}
use Rattle.sheet_little.specs.Rows.{ban_of}
use Rattle.sheet_little.proofs.rows.put_ban.Goals as goal

pub returns-then-left-eq1 : goal.returns-then-left-eq1
unfolding ban_of
returns-then-left-eq1 c = (rw (eq-eqb _ 1 c.if-left-eq1.true) c.push.ensures, omega (arith, simp length-append at (ap length c.push.ensures)))

pub returns-else-left-eq1 : goal.returns-else-left-eq1
unfolding ban_of
returns-else-left-eq1 c = (rw (ne_eqb _ 1 c.if-left-eq1.false) (sym (append-nil c.args.rows.now)), omega arith)
