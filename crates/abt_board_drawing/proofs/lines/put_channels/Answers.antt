-- Sender by sender.
use Rattle.std.proofs.Common.{arith}
use Rattle.abt_record.specs.Abstract.{network_of}
use Rattle.model_sheet.specs.Problem.{max_agents}
use Rattle.abt_board_drawing.specs.Text.{lines_of, line_lines}
use Rattle.abt_board_drawing.proofs.Saying.{none-said, one-said, all-said}
use Rattle.abt_board_drawing.proofs.Walks.{from-next, from-none}
use Rattle.abt_board_drawing.proofs.lines.put_channels.Goals as goal

pub loop-from-init : goal.loop-from-init
unfolding line_lines max_agents
loop-from-init c = none-said

pub loop-from-preserved : goal.loop-from-preserved
loop-from-preserved c =
    one-said _ c.loop-from.invariant (from-next 12 c.loop-from.from (lines_of (network_of c.args.r.now)) (omega arith)) c.in_ok-put_channels_of.ensures

pub returns : goal.returns
returns c = all-said c.loop-from.invariant (from-none 12 c.loop-from.from (lines_of (network_of c.args.r.now)) (omega arith))
