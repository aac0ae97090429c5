-- `load_second` refuses bytes that are not whole, and reads the others by their first form.
use Rattle.std.proofs.Common.{sym}
use Rattle.std.proofs.lemmas.Result.{err_from_is_err_and}
use Rattle.model_image.specs.Reading.{bad_image}
use Rattle.abt_image_reader.specs.Loaded.{loaded_of}
use Rattle.abt_image_mover.proofs.Answers.{not-whole}
use Rattle.abt_image_mover.proofs.load_second.Goals as goal

pub returns-in_err-n : goal.returns-in_err-n
unfolding loaded_of bad_image
returns-in_err-n c =
    let p = err_from_is_err_and c.from_residual.result c.from_residual.ensures.1 in
    let q = c.in_err-n.ensures.refused in
    rw (p.1, p.2, q.0) (sym (not-whole c.args.s.now q.1))
