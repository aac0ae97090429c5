-- `append_ban` puts the word and two places.
-- The four parts one behind the other.
use Rattle.model_base.specs.Decimal.{newline}
use Rattle.support_buffer.proofs.Puts.{adds_then}
use Rattle.model_text.specs.Statements.{ban_word}
use Rattle.model_text.specs.Telling.{ban_line}
use Rattle.sheet_text_writer.proofs.Rooms.{room-first, room-rest, room-put}
use Rattle.sheet_text_writer.proofs.lines.append_ban.Goals as goal

pub append_place-requires : goal.append_place-requires
unfolding ban_line ban_word
append_place-requires c = room-first _ _ (room-rest ban_word _ c.requires c.put_all.ensures)

pub append_place-requires-2 : goal.append_place-requires-2
unfolding ban_line ban_word
append_place-requires-2 c = room-first _ _ (room-rest _ _ (room-rest ban_word _ c.requires c.put_all.ensures) c.append_place.ensures)

pub put_all-requires-2 : goal.put_all-requires-2
unfolding ban_line ban_word newline
put_all-requires-2 c =
    let rest = room-rest _ _ (room-rest ban_word _ c.requires c.put_all.ensures) c.append_place.ensures in
    room-put newline (room-rest _ _ rest c.append_place-2.ensures)

pub returns : goal.returns
unfolding ban_line ban_word newline
returns c = adds_then c.put_all.ensures (adds_then c.append_place.ensures (adds_then c.append_place-2.ensures c.put_all-2.ensures))
