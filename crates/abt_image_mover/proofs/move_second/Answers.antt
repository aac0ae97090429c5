-- `move_second` writes the first form of what is read.
use Rattle.std.proofs.Common.{ℕ, sym, ap, ◌∙◌, List, eq-eqb}
use Rattle.std.proofs.lemmas.Result.{err_from_is_err_and}
use Rattle.model_base.specs.Lent.{put}
use Rattle.abt_image_mover.proofs.Answers.{read_number, as-second, moves-refused, moves-second, moves-unwhole}
use Rattle.abt_image_mover.proofs.move_second.Goals as goal

pub returns-in_err-n : goal.returns-in_err-n
returns-in_err-n c =
    let p = err_from_is_err_and c.from_residual.result c.from_residual.ensures.1 in
    let q = c.in_err-n.ensures.refused in
    rw (p.1, p.2, q.0) (sym (moves-unwhole c.args.s.now c.args.out.now (eq-eqb _ _ c.requires) q.1))

pub returns-in_err-read_second : goal.returns-in_err-read_second
returns-in_err-read_second c =
    let p = err_from_is_err_and c.from_residual-in_err-read_second.result c.from_residual-in_err-read_second.ensures.1 in
    rw (p.1, p.2) (sym (moves-refused c.args.s.now c.args.out.now _ (c.in_err-read_second.ensures ∙ sym (as-second c.args.s.now (eq-eqb _ _ c.requires)))))

pub returns : goal.returns
returns c =
    let s = c.args.s.now in
    let e = moves-second s c.args.out.now (eq-eqb _ _ c.requires) (read_number _ c.in_ok-read_second.ensures) in
    c.write.ensures ∙ ap (λ (l : List ℕ). put l c.args.out.now) c.in_ok-n.ensures.whole.1 ∙ sym e
