-- What is put, with the blocks of the scanners left, is the blocks of all.
use Rattle.std.proofs.Common.{◌+◌, ◌-◌, min}
use Rattle.model_base.specs.Finite.{gather}
use Rattle.abt_record.specs.Abstract.{network_of}
use Rattle.abt_board_drawing.specs.Text.{scanner_blocks}
use Rattle.abt_board_drawing.proofs.Saying.{Says}
use Rattle.abt_board_drawing.proofs.Blocks.{block_of}
use Rattle.abt_board_drawing.proofs.put_agents.Given as goal

abbrev pub invariant-loop-i : goal.invariant-loop-i
invariant-loop-i l =
    Says l.initial.out.items (scanner_blocks (network_of l.r))
    l.out.items (gather (min l.r.count 12 - l.i) (l.i + 1) (block_of (network_of l.r)))
