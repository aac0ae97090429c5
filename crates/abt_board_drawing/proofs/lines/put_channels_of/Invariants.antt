-- What is put, with what is left, is all.
use Rattle.std.proofs.Common.{◌+◌, ◌-◌}
use Rattle.model_base.specs.Finite.{gather}
use Rattle.abt_record.specs.Abstract.{network_of}
use Rattle.abt_board_drawing.specs.Text.{line_line, lines_of}
use Rattle.abt_board_drawing.proofs.Saying.{Says}
use Rattle.abt_board_drawing.proofs.lines.put_channels_of.Given as goal

abbrev pub invariant-loop-to : goal.invariant-loop-to
invariant-loop-to l =
    Says l.initial.out.items (lines_of (network_of l.r) l.from)
    l.out.items (gather (12 + 1 - l.to) l.to (λ j. line_line l.from j ((network_of l.r).channel l.from j)))
