-- What the lines come to is what the text does. Assumes nothing.
use Rattle.std.proofs.Common.{ap, ◌∙◌}
use Rattle.std.proofs.lemmas.Result.{err_from_is_err_and}
use Rattle.model_text.specs.Reading.{Outcome}
use Rattle.sheet_text_reader.specs.Walking.{outcome_of, Wrote, due, read_of}
use Rattle.sheet_text_reader.proofs.Walked.{text-comes}
use Rattle.sheet_text_reader.proofs.read_sheet.Goals as goal

pub returns-in_err-read_lines : goal.returns-in_err-read_lines
unfolding outcome_of due read_of
returns-in_err-read_lines c =
    let p = err_from_is_err_and c.from_residual.result c.from_residual.ensures.1 in
    rw (p.1, p.2)
    (ap (λ (o : Outcome). due o c.args.out.now)
    (text-comes c.args.text.now _ _ _ c.new-draft.ensures c.front.ensures.0 c.in_err-read_lines.ensures))

pub returns-in_err-length : goal.returns-in_err-length
unfolding outcome_of due read_of
returns-in_err-length c =
    let p = err_from_is_err_and c.from_residual-in_err-length.result c.from_residual-in_err-length.ensures.1 in
    rw (p.1, p.2)
    (ap Wrote c.in_err-length.ensures
    ∙ ap (λ (o : Outcome). due o c.args.out.now)
    (text-comes c.args.text.now _ _ _ c.new-draft.ensures c.front.ensures.0 c.in_ok-read_lines.ensures))

pub returns : goal.returns
unfolding outcome_of due read_of
returns c =
    ap Wrote c.in_ok-length.ensures
    ∙ ap (λ (o : Outcome). due o c.args.out.now)
    (text-comes c.args.text.now _ _ _ c.new-draft.ensures c.front.ensures.0 c.in_ok-read_lines.ensures)
