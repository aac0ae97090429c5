-- `messages_waiting` counts the messages of all lines.
-- Those counted and those on the lines that are left are all.
use Rattle.std.proofs.Common.{ap, arith, ◌∙◌}
use Rattle.abt_record.specs.Abstract.{network_of}
use Rattle.model_image.specs.Image.{all_lines}
use Rattle.model_image.specs.Reading.{message_length}
use Rattle.model_image.proofs.Lengths.{total, messages-length}
use Rattle.abt_image_writer.proofs.Numbered.{line-total, all_lines_lem, no_lines}
use Rattle.abt_image_writer.proofs.lines.messages_waiting.Goals as goal

pub loop-line-preserved : goal.loop-line-preserved
loop-line-preserved c =
    let l = c.loop-line in
    let held = c.on_line.ensures in
    record {
      few = omega (arith, held.1);
      all = omega (arith, l.invariant.all, line-total c.args.r.now l.line (omega arith), held.0);
    }

pub returns : goal.returns
unfolding message_length total
returns c =
    let l = c.loop-line in
    let w = network_of c.args.r.now in (
      messages-length 0 (all_lines w) ∙ rw (all_lines_lem w) (omega (arith, l.invariant.all, ap total (no_lines w l.line (omega arith)))),
      omega arith,
    )
