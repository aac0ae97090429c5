-- `put_message` puts a message's parts one behind the other.
use Rattle.std.proofs.Common.{refl, sym}
use Rattle.support_buffer.proofs.Puts.{puts_then, puts-as}
use Rattle.abt_image_writer.proofs.Words.{puts-two}
use Rattle.abt_image_writer.proofs.messages.put_message.Goals as goal

pub returns : goal.returns
returns c =
    puts-as refl (sym (c.apart-sort.ensures c.args.next))
    (puts_then (puts_then (puts_then c.put.ensures c.put-2.ensures) (puts-two _ c.put_all.ensures c.to_le_bytes.ensures)) c.put_slots.ensures)
