-- Message by message, each behind a comma.
use Rattle.std.proofs.Common.{arith}
use Rattle.abt_board_drawing.proofs.Saying.{none-said, one-said, all-said}
use Rattle.abt_board_drawing.proofs.Waiting.{all-left, next-left, none-left}
use Rattle.abt_board_drawing.proofs.lines.put_others.Goals as goal

pub loop-k-init : goal.loop-k-init
loop-k-init c = rw (all-left c.args.r.now c.args.from c.args.to c.args.count) none-said

pub loop-k-preserved : goal.loop-k-preserved
loop-k-preserved c =
    one-said _ c.loop-k.invariant (next-left c.args.r.now c.args.from c.args.to c.loop-k.k c.args.count (omega arith)) c.in_ok-put_next.ensures

pub returns : goal.returns
returns c = all-said c.loop-k.invariant (none-left c.args.r.now c.args.from c.args.to c.loop-k.k c.args.count (omega arith))
