-- `put_unpacked_messages` puts the records one behind the other, and then their messages unpacked.
use Rattle.std.proofs.Common.{◌≡◌, refl, ◌*◌, ◌/◌, arith, length}
use Rattle.model_image_forms.specs.Places.{by_place}
use Rattle.model_image_forms.proofs.Places.{laid-length}
use Rattle.support_buffer.proofs.Puts.{puts-as}
use Rattle.abt_image_mover.proofs.Parts.{puts_first}
use Rattle.abt_image_mover.proofs.Lengths.{unpacked-laid}
use Rattle.abt_image_mover.proofs.forms.put_unpacked_messages.Goals as goal

pub returns : goal.returns
returns c =
    let a = c.args in
    let k = length a.s.now / 10 in
    let whole : length a.s.now ≡ 10 * (length a.s.now / 10) = omega (arith, c.requires.messages.0) in
    let long : length (by_place 10 k a.s.now) ≡ length a.s.now = omega (arith, laid-length 10 k a.s.now, whole) in
    let first = puts_first _ _ _ (length a.s.now) c.lay_by_place.ensures long in
    let all = rw first at c.put_all_unpacked.ensures in
    puts-as (rw long refl) (rw long (unpacked-laid a.s.now k whole)) all
