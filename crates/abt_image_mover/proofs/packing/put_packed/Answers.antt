-- `put_packed` puts the bytes before the left side, and the twelve slots of the left side two by two.
use Rattle.std.proofs.Common.{ℕ, suc, ◌+◌, ◌*◌, ◌≡◌, refl, ap, [], ◌∷◌, arith, get_or, zero-add, length-take-le}
use Rattle.model_image_forms.specs.Packing.{front_length, packed}
use Rattle.support_buffer.proofs.Puts.{puts-as, puts_then, none_gathered, one_more, all-gathered}
use Rattle.abt_image_mover.proofs.packing.put_packed.Goals as goal

pub loop-i-init : goal.loop-i-init
loop-i-init c = none_gathered _ _ 0 0 0 (omega arith) refl refl

pub loop-i-preserved : goal.loop-i-preserved
loop-i-preserved c =
    let i = c.loop-i.i in
    let m = c.args.m.now in
    let e : 5 + 2 * i ≡ 4 + suc (2 * i) = omega arith in
    one_more c.loop-i.invariant _ _ c.put.ensures (rw zero-add (ap (λ (k : ℕ). (get_or m (4 + 2 * i) 0 + 16 * get_or m k 0) ∷ []) e)) refl refl

pub returns : goal.returns
unfolding packed front_length
returns c =
    let four = puts-as (length-take-le 4 c.args.m.now (omega arith)) refl c.put_all.ensures in
    puts_then four (all-gathered c.loop-i.invariant 6 6 (omega arith) (omega arith))
