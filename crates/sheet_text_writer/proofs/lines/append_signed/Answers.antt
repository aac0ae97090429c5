-- `append_signed` puts a blank, a sign where there is one, and the number.
-- By the sign of the byte.
use Rattle.std.proofs.Common.{◌++◌, arith}
use Rattle.support_buffer.proofs.Puts.{adds_then}
use Rattle.model_text.specs.Telling.{blank, dash, signed_figure}
use Rattle.sheet_text_writer.proofs.Rooms.{room-rest, room-digits}
use Rattle.sheet_text_writer.proofs.Signs.{sign-none, sign-some, number_is}
use Rattle.sheet_text_writer.proofs.lines.append_signed.Goals as goal

pub append_figure-requires : goal.append_figure-requires
unfolding signed_figure
append_figure-requires c = rw (sign-none _ c.if-b-lt128.true) at c.requires

pub returns-then-b-lt128 : goal.returns-then-b-lt128
unfolding signed_figure
returns-then-b-lt128 c = rw (sign-none _ c.if-b-lt128.true) c.append_figure.ensures

pub append_number-requires : goal.append_number-requires
unfolding signed_figure blank dash
append_number-requires c = room-digits _ (room-rest (blank ++ dash) _ (rw (sign-some _ c.if-b-lt128.false (omega arith)) at c.requires) c.put_all.ensures)

pub returns-else-b-lt128 : goal.returns-else-b-lt128
unfolding signed_figure blank dash
returns-else-b-lt128 c =
    let b = c.args.b in
    rw (sign-some b c.if-b-lt128.false (omega arith)) (adds_then c.put_all.ensures (number_is (omega arith) c.append_number.ensures.text))
