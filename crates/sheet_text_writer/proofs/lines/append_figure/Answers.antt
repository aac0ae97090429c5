-- `append_figure` puts a blank and the number.
-- The two parts one behind the other.
use Rattle.model_base.specs.Decimal.{decimal}
use Rattle.support_buffer.proofs.Puts.{adds_then}
use Rattle.model_text.specs.Telling.{blank, figure}
use Rattle.sheet_text_writer.proofs.Rooms.{room-rest, room-digits}
use Rattle.sheet_text_writer.proofs.lines.append_figure.Goals as goal

pub append_number-requires : goal.append_number-requires
unfolding figure blank
append_number-requires c = room-digits _ (room-rest blank (decimal c.args.k) c.requires c.put_all.ensures)

pub returns : goal.returns
unfolding figure blank
returns c = adds_then c.put_all.ensures (rw c.from.ensures at c.append_number.ensures.text)
