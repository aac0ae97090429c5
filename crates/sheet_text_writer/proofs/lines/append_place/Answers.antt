-- `append_place` puts a blank, the agent, a colon and the value.
-- The three parts one behind the other.
use Rattle.std.proofs.Common.{◌++◌}
use Rattle.model_base.specs.Decimal.{decimal}
use Rattle.support_buffer.proofs.Puts.{adds_then}
use Rattle.model_text.specs.Telling.{colon, figure, place}
use Rattle.sheet_text_writer.proofs.Rooms.{room-first, room-rest, room-put, room-digits}
use Rattle.sheet_text_writer.proofs.lines.append_place.Goals as goal

pub append_figure-requires : goal.append_figure-requires
unfolding place
append_figure-requires c = room-first (figure c.args.i) (colon ++ decimal c.args.v) c.requires

pub put_all-requires : goal.put_all-requires
unfolding place colon
put_all-requires c = room-put _ (room-first colon (decimal c.args.v) (room-rest (figure c.args.i) (colon ++ decimal c.args.v) c.requires c.append_figure.ensures))

pub append_number-requires : goal.append_number-requires
unfolding place colon
append_number-requires c =
    let rest = room-rest (figure c.args.i) (colon ++ decimal c.args.v) c.requires c.append_figure.ensures in
    room-digits _ (room-rest colon (decimal c.args.v) rest c.put_all.ensures)

pub returns : goal.returns
unfolding place colon
returns c = adds_then c.append_figure.ensures (adds_then c.put_all.ensures (rw c.from.ensures at c.append_number.ensures.text))
