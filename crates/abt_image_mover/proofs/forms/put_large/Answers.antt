-- `put_large` puts the four parts of the first form one behind the other.
use Rattle.std.proofs.Common.{◌+◌, ◌*◌, refl, arith, rules, length, get_or}
use Rattle.model_image.specs.Image.{first_form}
use Rattle.model_image.specs.Reading.{agent_length}
use Rattle.model_image_forms.specs.Places.{by_place}
use Rattle.model_image_forms.specs.Forms.{agents_in, unpacked_messages, large}
use Rattle.support_buffer.proofs.Puts.{puts-as, puts_then}
use Rattle.abt_image_mover.proofs.Parts.{part_length}
use Rattle.abt_image_mover.proofs.Lengths.{large-long, rearranged-parts, rest-long}
use Rattle.abt_image_mover.proofs.forms.put_large.Goals as goal

pub put_front-requires-clause-room : goal.put_front-requires-clause-room
put_front-requires-clause-room c = omega (arith, large-long c.args.s.now c.requires.bytes)

pub put_by_place-requires : goal.put_by_place-requires
put_by_place-requires c = omega (arith, large-long c.args.s.now c.requires.bytes)

pub put_all-requires : goal.put_all-requires
put_all-requires c =
    let s = c.args.s.now in
    omega (arith, part_length (544 + 170 * get_or s 1 0) 264 s (omega (arith, c.requires.bytes.long)), large-long s c.requires.bytes)

pub put_unpacked_messages-requires : goal.put_unpacked_messages-requires
put_unpacked_messages-requires c =
    let s = c.args.s.now in
    let w = c.requires.bytes in
    record {
      messages = (omega (arith, rest-long s w), omega (arith, rest-long s w, w.most));
      room = omega (arith, rest-long s w, large-long s w, part_length (544 + 170 * get_or s 1 0) 264 s (omega (arith, w.long)));
    }

pub returns : goal.returns
unfolding large first_form agents_in agent_length
returns c =
    let s = c.args.s.now in
    let w = c.requires.bytes in
    let n = get_or s 1 0 in
    let heads = puts-as (part_length (544 + 170 * n) 264 s (omega (arith, w.long))) refl c.put_all.ensures in
    let parts = puts_then (puts_then (puts_then c.put_front.ensures c.put_by_place.ensures) heads) c.put_unpacked_messages.ensures in
    let all = puts-as {b = length (large s)} (omega (arith, rest-long s w, large-long s w)) (rearranged-parts 1 (by_place 170 n) unpacked_messages s n refl) parts in
    record { long = omega (arith, all.behind); put = search (rules, all.put, all.same) }
