-- What is put, with what is left, is all.
use Rattle.std.proofs.Common.{◌+◌, ◌-◌}
use Rattle.model_base.specs.Finite.{gather}
use Rattle.abt_record.specs.Abstract.{network_of}
use Rattle.abt_board_drawing.specs.Text.{lines_of, line_lines}
use Rattle.abt_board_drawing.proofs.Saying.{Says}
use Rattle.abt_board_drawing.proofs.lines.put_channels.Given as goal

abbrev pub invariant-loop-from : goal.invariant-loop-from
invariant-loop-from l =
    Says l.initial.out.items (line_lines (network_of l.r))
    l.out.items (gather (12 + 1 - l.from) l.from (lines_of (network_of l.r)))
