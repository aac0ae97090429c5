-- `move_image` writes the other form of what is read.
use Rattle.std.proofs.Common.{sym, ◌∙◌, eqb-true}
use Rattle.std.proofs.lemmas.Result.{err_from_is_err_and}
use Rattle.support_buffer.proofs.Within.{counted}
use Rattle.abt_image_mover.proofs.Images.{taken-packable}
use Rattle.abt_image_mover.proofs.Answers.{read_number, as_first, moves-refused, moves-first, move-within}
use Rattle.abt_image_mover.proofs.move_image.Goals as goal

pub move_second-requires : goal.move_second-requires
move_second-requires c = eqb-true _ _ (sym c.is_second.ensures ∙ c.if-is_second.true)

pub returns-then-is_second : goal.returns-then-is_second
returns-then-is_second c =
    let e = c.move_second.ensures in
    record { out_after = e; length_in_bounds = counted c.move_second.result c.move_second.new.out _ e (move-within c.args.s.now c.args.out.now) }

pub returns-in_err-load_first-clause-out_after : goal.returns-in_err-load_first-clause-out_after
returns-in_err-load_first-clause-out_after c =
    let s = c.args.s.now in
    let p = err_from_is_err_and c.from_residual.result c.from_residual.ensures.1 in
    rw (p.1, p.2) (sym (moves-refused s c.args.out.now _ (c.in_err-load_first.ensures ∙ sym (as_first s (sym c.is_second.ensures ∙ c.if-is_second.false)))))

pub write_small-requires : goal.write_small-requires
write_small-requires c = taken-packable c.args.s.now (read_number _ c.in_ok-load_first.ensures)

pub returns : goal.returns
returns c =
    let s = c.args.s.now in
    let out = c.args.out.now in
    let e = c.write_small.ensures ∙ sym (moves-first s out (sym c.is_second.ensures ∙ c.if-is_second.false) (read_number _ c.in_ok-load_first.ensures)) in
    record { out_after = e; length_in_bounds = counted c.write_small.result c.write_small.new.out _ e (move-within s out) }
