-- What is put, with the messages left, is all behind the head.
use Rattle.std.proofs.Common.{◌-◌}
use Rattle.abt_board_drawing.specs.Text.{messages_behind}
use Rattle.abt_board_drawing.specs.Waiting.{others}
use Rattle.abt_board_drawing.proofs.Saying.{Says}
use Rattle.abt_board_drawing.proofs.Waiting.{from_place}
use Rattle.abt_board_drawing.proofs.lines.put_others.Given as goal

abbrev pub invariant-loop-k : goal.invariant-loop-k
invariant-loop-k l =
    Says l.initial.out.items (messages_behind (others l.r l.from l.to (l.count - 1)))
    l.out.items (from_place l.r l.from l.to l.k (l.count - l.k))
