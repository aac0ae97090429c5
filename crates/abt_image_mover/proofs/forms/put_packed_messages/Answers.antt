-- `put_packed_messages` packs the messages one by one, and puts these records by place.
use Rattle.std.proofs.Common.{◌≡◌, refl, sym, ap, ◌∙◌, ◌*◌, ◌/◌, arith, length}
use Rattle.model_image.specs.Reading.{message_length}
use Rattle.model_image_forms.specs.Places.{by_place}
use Rattle.model_image_forms.specs.Packing.{packed_length}
use Rattle.model_image_forms.proofs.Forms.{laid-messages}
use Rattle.support_buffer.proofs.Puts.{puts-as}
use Rattle.abt_image_mover.proofs.Parts.{puts_first}
use Rattle.abt_image_mover.proofs.Lengths.{records-long}
use Rattle.abt_image_mover.proofs.forms.put_packed_messages.Goals as goal

pub returns : goal.returns
unfolding message_length packed_length
returns c =
    let a = c.args in
    let k = length a.s.now / 16 in
    let whole : length a.s.now ≡ 16 * (length a.s.now / 16) = omega (arith, c.requires.messages.0) in
    let first = puts_first _ _ _ (10 * k) c.pack_all.ensures (records-long a.s.now k whole) in
    puts-as refl (ap (by_place k 10) first ∙ sym (laid-messages a.s.now k whole)) c.put_by_place.ensures
