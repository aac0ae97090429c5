-- `put_messages` puts the messages of all lines, line by line.
-- Those of the lines from `line` on are left to put, behind `before` others.
use Rattle.std.proofs.Common.{◌*◌, ◌≤◌}
use Rattle.abt_record.specs.Abstract.{network_of}
use Rattle.model_image.specs.Image.{all_lines, messages_from}
use Rattle.abt_image_writer.specs.Lines.{lines_from}
use Rattle.support_buffer.proofs.Puts.{Left}
use Rattle.abt_image_writer.proofs.messages.put_messages.Given as goal

abbrev pub invariant-loop-line : goal.invariant-loop-line
invariant-loop-line l =
    record {
      few : l.before ≤ 15 * l.line;
      left : Left l.initial.out (messages_from 0 (all_lines (network_of l.r))) l.out (messages_from l.before (lines_from (network_of l.r) l.line));
    }
