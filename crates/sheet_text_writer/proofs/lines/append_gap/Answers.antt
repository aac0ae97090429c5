-- `append_gap` puts the word, two agents and two signed numbers.
-- The six parts one behind the other.
use Rattle.model_base.specs.Decimal.{newline}
use Rattle.support_buffer.proofs.Puts.{adds_then}
use Rattle.model_text.specs.Statements.{gap_word}
use Rattle.model_text.specs.Telling.{gap_line}
use Rattle.sheet_text_writer.proofs.Rooms.{room-first, room-rest, room-put}
use Rattle.sheet_text_writer.proofs.lines.append_gap.Goals as goal

pub append_figure-requires : goal.append_figure-requires
unfolding gap_line gap_word
append_figure-requires c = room-first _ _ (room-rest gap_word _ c.requires c.put_all.ensures)

pub append_figure-requires-2 : goal.append_figure-requires-2
unfolding gap_line gap_word
append_figure-requires-2 c = room-first _ _ (room-rest _ _ (room-rest gap_word _ c.requires c.put_all.ensures) c.append_figure.ensures)

pub append_signed-requires : goal.append_signed-requires
unfolding gap_line gap_word
append_signed-requires c =
    let one = room-rest _ _ (room-rest gap_word _ c.requires c.put_all.ensures) c.append_figure.ensures in
    room-first _ _ (room-rest _ _ one c.append_figure-2.ensures)

pub append_signed-requires-2 : goal.append_signed-requires-2
unfolding gap_line gap_word
append_signed-requires-2 c =
    let one = room-rest _ _ (room-rest gap_word _ c.requires c.put_all.ensures) c.append_figure.ensures in
    room-first _ _ (room-rest _ _ (room-rest _ _ one c.append_figure-2.ensures) c.append_signed.ensures)

pub put_all-requires-2 : goal.put_all-requires-2
unfolding gap_line gap_word newline
put_all-requires-2 c =
    let one = room-rest _ _ (room-rest gap_word _ c.requires c.put_all.ensures) c.append_figure.ensures in
    let two = room-rest _ _ (room-rest _ _ one c.append_figure-2.ensures) c.append_signed.ensures in
    room-put newline (room-rest _ _ two c.append_signed-2.ensures)

pub returns : goal.returns
unfolding gap_line gap_word newline
returns c =
    let figures = adds_then c.append_figure.ensures (adds_then c.append_figure-2.ensures (adds_then c.append_signed.ensures (adds_then c.append_signed-2.ensures c.put_all-2.ensures))) in
    adds_then c.put_all.ensures figures
