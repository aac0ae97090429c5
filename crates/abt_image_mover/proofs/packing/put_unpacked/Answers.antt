-- `put_unpacked` puts the bytes before the left side, and both halves of each of the six bytes.
use Rattle.std.proofs.Common.{ℕ, ◌≡◌, ◌+◌, ◌-◌, ◌/◌, ◌%◌, [], ◌∷◌, refl, ap, arith, length, get_or, take, drop, zero-add, length-drop, length-take-le, get_or-drop}
use Rattle.std.proofs.lemmas.List.{take_rest}
use Rattle.model_image_forms.specs.Packing.{front_length, unpacked}
use Rattle.support_buffer.proofs.Puts.{puts-as, puts_then, none_gathered, one_more, all-gathered}
use Rattle.abt_image_mover.proofs.packing.put_unpacked.Goals as goal

pub loop-slots-init : goal.loop-slots-init
loop-slots-init c = none_gathered _ _ 0 0 0 (omega arith) refl refl

pub loop-slots-preserved : goal.loop-slots-preserved
loop-slots-preserved c =
    let m = c.args.m.now in
    let i = c.loop-slots.slots-index in
    let here : get_or (take (length m - 4) (drop 4 m)) i 0 ≡ get_or m (4 + i) 0 = rw (take_rest m 4) (get_or-drop 4 m i 0) in
    one_more c.loop-slots.invariant _ _ (puts_then c.put.ensures c.put-in-loop-slots.ensures)
    (rw zero-add (ap (λ (b : ℕ). b % 16 ∷ b / 16 ∷ []) here))
    refl
    (omega arith)

pub returns : goal.returns
unfolding unpacked front_length
returns c =
    let m = c.args.m.now in
    let long : length (take (length m - 4) (drop 4 m)) ≡ 6 = rw (take_rest m 4) (omega (arith, length-drop 4 m)) in
    let four = puts-as (length-take-le 4 m (omega arith)) refl c.put_all.ensures in
    puts_then four (all-gathered c.loop-slots.invariant 12 6 (omega (arith, long)) (omega (arith, long)))
