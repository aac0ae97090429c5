-- `put_small` puts the four parts of the second form one behind the other.
use Rattle.std.proofs.Common.{◌+◌, ◌*◌, refl, arith, rules, length, get_or}
use Rattle.model_image.specs.Reading.{agent_length}
use Rattle.model_image_forms.specs.Places.{by_place}
use Rattle.model_image_forms.specs.Forms.{second_form, agents_in, packed_messages, small}
use Rattle.support_buffer.proofs.Puts.{puts-as, puts_then}
use Rattle.abt_image_mover.proofs.Parts.{part_length}
use Rattle.abt_image_mover.proofs.Lengths.{small-long, rearranged-parts, rest-long, rest-low}
use Rattle.abt_image_mover.proofs.forms.put_small.Goals as goal

pub put_front-requires-clause-room : goal.put_front-requires-clause-room
put_front-requires-clause-room c = omega (arith, small-long c.args.s.now c.requires.bytes.whole)

pub put_by_place-requires : goal.put_by_place-requires
put_by_place-requires c = omega (arith, small-long c.args.s.now c.requires.bytes.whole)

pub put_all-requires : goal.put_all-requires
put_all-requires c =
    let s = c.args.s.now in
    omega (arith, part_length (544 + 170 * get_or s 1 0) 264 s (omega (arith, c.requires.bytes.whole.long)), small-long s c.requires.bytes.whole)

pub put_packed_messages-requires : goal.put_packed_messages-requires
put_packed_messages-requires c =
    let s = c.args.s.now in
    let w = c.requires.bytes.whole in
    record {
      messages = (omega (arith, rest-long s w), rest-low s c.requires.bytes, omega (arith, rest-long s w, w.most));
      room = omega (arith, rest-long s w, small-long s w, part_length (544 + 170 * get_or s 1 0) 264 s (omega (arith, w.long)));
    }

pub returns : goal.returns
unfolding small second_form agents_in agent_length
returns c =
    let s = c.args.s.now in
    let w = c.requires.bytes.whole in
    let n = get_or s 1 0 in
    let heads = puts-as (part_length (544 + 170 * n) 264 s (omega (arith, w.long))) refl c.put_all.ensures in
    let parts = puts_then (puts_then (puts_then c.put_front.ensures c.put_by_place.ensures) heads) c.put_packed_messages.ensures in
    let all = puts-as {b = length (small s)} (omega (arith, rest-long s w, small-long s w)) (rearranged-parts 2 (by_place n 170) packed_messages s n refl) parts in
    record { long = omega (arith, all.behind); put = search (rules, all.put, all.same) }
