-- `write_text` answers and writes as the definition says.
-- What the sheet is read as decides; a text is made in a buffer that is long enough for any, then put as a whole.
use Rattle.std.proofs.Common.{sym, ap, ◌∙◌, List, ℕ}
use Rattle.std.proofs.lemmas.Result.{err_from_is_err_and}
use Rattle.model_base.specs.Lent.{untouched, put}
use Rattle.sheet_reader.proofs.Outcomes.{accepted}
use Rattle.support_buffer.specs.Abstract.{written_of}
use Rattle.sheet_text_writer.proofs.Answers.{text-room, answers-refused, answers-text}
use Rattle.sheet_text_writer.proofs.write_text.Goals as goal

pub returns-in_err-p : goal.returns-in_err-p
unfolding written_of untouched
returns-in_err-p c =
    let p = err_from_is_err_and c.from_residual.result c.from_residual.ensures.1 in
    rw (p.1, p.2) (sym (answers-refused c.args.s.now _ c.args.out.now c.in_err-p.ensures))

pub append_text-n-requires : goal.append_text-n-requires
append_text-n-requires c = let v = accepted _ _ c.in_ok-p.ensures in (v, text-room _ _ v)

pub returns : goal.returns
returns c =
    let a = c.args in
    c.put_whole.ensures ∙ ap (λ (t : List ℕ). put t a.out.now) c.append_text-n.ensures.text
    ∙ sym (answers-text a.s.now _ (accepted _ _ c.in_ok-p.ensures) a.out.now)
