-- `read_second` gives what the first form gives, where that made into the second form again is the bytes.
use Rattle.std.proofs.Common.{sym, ap, ◌∙◌, List, ℕ, arith}
use Rattle.std.proofs.lemmas.Result.{err_from_is_err_and}
use Rattle.model_base.specs.Same.{same_numbers}
use Rattle.model_image.specs.Reading.{bad_image}
use Rattle.abt_image_reader.specs.Loaded.{loaded_of}
use Rattle.abt_image_reader.proofs.Comparing.{pointwise_same}
use Rattle.abt_image_mover.proofs.Parts.{puts_first}
use Rattle.abt_image_mover.proofs.Lengths.{small-long}
use Rattle.abt_image_mover.proofs.Images.{taken-packable}
use Rattle.abt_image_mover.proofs.Answers.{read_number, rejected_number, first-refused, not-again, second-taken}
use Rattle.abt_image_mover.proofs.read_second.Goals as goal

pub returns-in_err-network : goal.returns-in_err-network
returns-in_err-network c =
    let p = err_from_is_err_and c.from_residual.result c.from_residual.ensures.1 in
    let q = c.in_err-network.ensures in
    rw (p.1, p.2) (q ∙ sym (first-refused c.args.s.now c.args.first.now c.requires (rejected_number _ q)))

pub put_small-n-requires : goal.put_small-n-requires
put_small-n-requires c =
    let p = taken-packable c.args.first.now (read_number _ c.in_ok-network.ensures) in
    record { bytes = p; room = omega (arith, small-long c.args.first.now p.whole, p.whole.few, p.whole.most) }

pub returns-then-eq : goal.returns-then-eq
returns-then-eq c =
    let put = c.put_small-n.ensures in
    let f = sym (ap (λ (l : List ℕ). same_numbers l c.args.s.now) (puts_first _ _ _ _ put.put (sym put.long))) ∙ sym (c.eq.ensures ∙ pointwise_same _ _) ∙ c.if-eq.true in
    c.in_ok-network.ensures ∙ sym (second-taken c.args.s.now c.args.first.now c.requires (read_number _ c.in_ok-network.ensures) f)

pub returns-else-eq : goal.returns-else-eq
unfolding loaded_of bad_image
returns-else-eq c =
    let put = c.put_small-n.ensures in
    let f = sym (ap (λ (l : List ℕ). same_numbers l c.args.s.now) (puts_first _ _ _ _ put.put (sym put.long))) ∙ sym (c.eq.ensures ∙ pointwise_same _ _) ∙ c.if-eq.false in
    sym (not-again c.args.s.now c.args.first.now c.requires f)
