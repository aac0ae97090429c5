-- `messages_waiting` counts the messages of all lines.
-- Those counted and those on the lines that are left are all.
use Rattle.std.proofs.Common.{◌≡◌, ◌+◌, ◌*◌, ◌≤◌}
use Rattle.abt_record.specs.Abstract.{network_of}
use Rattle.model_image.proofs.Lengths.{total}
use Rattle.abt_image_writer.specs.Lines.{lines_from}
use Rattle.abt_image_writer.proofs.lines.messages_waiting.Given as goal

abbrev pub invariant-loop-line : goal.invariant-loop-line
invariant-loop-line l =
    record {
      few : l.k ≤ 15 * l.line;
      all : total (lines_from (network_of l.r) 0) ≡ l.k + total (lines_from (network_of l.r) l.line);
    }
