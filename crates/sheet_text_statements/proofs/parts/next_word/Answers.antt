-- Past the blanks, and to the next one. Assumes nothing.
use Rattle.std.proofs.Common.{refl, sym, ◌∙◌, not}
use Rattle.std.proofs.lemmas.List.{take_rest}
use Rattle.model_text.specs.Words.{is_blank}
use Rattle.sheet_text_statements.proofs.Searching.{position-some, position-none, length-first}
use Rattle.sheet_text_statements.proofs.Pieces.{no_words, next-is}
use Rattle.sheet_text_statements.proofs.parts.next_word.Goals as goal

pub returns-in_err-start : goal.returns-in_err-start
returns-in_err-start c =
    rw c.from_residual.ensures
    (no_words c.args.s.now (position-none (λ b. not (is_blank b)) _ (sym c.in_err-start.was ∙ c.word_start.ensures)))

pub returns : goal.returns
returns c =
    let s = c.args.s.now in
    let p = position-some (λ b. not (is_blank b)) s _ (sym c.in_ok-start.was ∙ c.word_start.ensures) in
    let n = length-first is_blank _ _ c.word_length.ensures.0 in
    next-is s _ _ _ _ p.0 p.1 (take_rest s c.in_ok-start.start)
    (c.split_at.ensures.front ∙ rw n refl) (c.split_at.ensures.back ∙ rw n refl)
