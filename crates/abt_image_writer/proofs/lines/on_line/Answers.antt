-- `on_line` reads the receiver's digit in the sender's row.
use Rattle.std.proofs.Common.{refl, sym, ◌∙◌}
use Rattle.abt_shape.proofs.Numbering.{ends}
use Rattle.abt_shape.proofs.Columns.{channel-one}
use Rattle.abt_record.proofs.Rings.{row-at}
use Rattle.abt_image_writer.proofs.Numbered.{ends as line_ends}
use Rattle.abt_image_writer.proofs.lines.on_line.Goals as goal

pub returns : goal.returns
returns c =
    let e = c.ends_of-from.ensures in
    let its = line_ends c.args.line c.requires in
    let are = channel-one _ _ _ _ e.0 its.channel (e.1 ∙ sym its.number) in
    (c.digit.ensures.0 ∙ sym (row-at c.args.rows.now _ _ (ends _ _ e.0).from_low) ∙ rw (are.0, are.1) refl, c.digit.ensures.1)
