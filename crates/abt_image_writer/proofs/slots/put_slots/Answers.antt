-- `put_slots` puts the digits of agents 1 to 12, upward: those below k are put.
use Rattle.std.proofs.Common.{ℕ, ◌+◌, ◌-◌, ◌∷◌, [], ◌≡◌, refl, ap, arith}
use Rattle.model_sheet.specs.Problem.{max_agents}
use Rattle.model_image.specs.Image.{slots}
use Rattle.support_buffer.proofs.Puts.{none_gathered, one_more, all-gathered}
use Rattle.abt_image_writer.proofs.slots.put_slots.Goals as goal

pub loop-k-init : goal.loop-k-init
loop-k-init c = none_gathered _ _ 0 1 0 (omega arith) refl refl

pub loop-k-preserved : goal.loop-k-preserved
loop-k-preserved c =
    let k = c.loop-k.k in
    let here : 1 + (k - 1) ≡ k = omega arith in
    one_more c.loop-k.invariant _ _ c.put.ensures (rw here (ap (λ (b : ℕ). b ∷ []) c.digit.ensures.0)) (omega arith) (omega arith)

pub returns : goal.returns
unfolding slots max_agents
returns c = all-gathered c.loop-k.invariant 12 12 (omega arith) (omega arith)
