-- Two numbers, two signed numbers and no fifth word. Assumes nothing.
use Rattle.std.proofs.Common.{sym, ap, ◌∙◌, length, arith, ltb-true}
use Rattle.sheet_text_statements.specs.Saying.{gap_from}
use Rattle.sheet_text_statements.proofs.Places.{signed-kept}
use Rattle.sheet_text_statements.proofs.Sayings.{words-four, gap-count, gap-a, gap-b, gap-least, gap-greatest, gap-said}
use Rattle.sheet_text_statements.proofs.gap_in.Goals as goal

pub returns-in_err-a : goal.returns-in_err-a
unfolding gap_from
returns-in_err-a c =
    ap gap_from c.from_residual.ensures
    ∙ gap-count _ (λ k. omega (arith, k, ap length c.in_err-a.ensures))

pub returns-in_err-b : goal.returns-in_err-b
unfolding gap_from
returns-in_err-b c =
    ap gap_from c.from_residual-in_err-b.ensures
    ∙ gap-count _ (λ k. omega (arith, k, ap length c.in_ok-a.ensures.0, ap length c.in_err-b.ensures))

pub returns-in_err-least : goal.returns-in_err-least
unfolding gap_from
returns-in_err-least c =
    ap gap_from c.from_residual-in_err-least.ensures
    ∙ gap-count _ (λ k. omega (arith, k, ap length c.in_ok-a.ensures.0, ap length c.in_ok-b.ensures.0, ap length c.in_err-least.ensures))

pub returns-in_err-greatest : goal.returns-in_err-greatest
unfolding gap_from
returns-in_err-greatest c =
    ap gap_from c.from_residual-in_err-greatest.ensures
    ∙ gap-count _ (λ k. omega (arith, k, ap length c.in_ok-a.ensures.0, ap length c.in_ok-b.ensures.0, ap length c.in_ok-least.ensures.0, ap length c.in_err-greatest.ensures))

pub returns-then-has_word : goal.returns-then-has_word
unfolding gap_from
returns-then-has_word c =
    let m = ltb-true 0 _ (sym c.has_word.ensures ∙ c.if-has_word.true) in
    gap-count _ (λ k. omega (arith, k, m, ap length c.in_ok-a.ensures.0, ap length c.in_ok-b.ensures.0, ap length c.in_ok-least.ensures.0, ap length c.in_ok-greatest.ensures.0))

pub returns-in_err-read_numeral : goal.returns-in_err-read_numeral
unfolding gap_from
returns-in_err-read_numeral c =
    let e = words-four c.in_ok-a.ensures.0 c.in_ok-b.ensures.0 c.in_ok-least.ensures.0 c.in_ok-greatest.ensures.0 (sym c.has_word.ensures ∙ c.if-has_word.false) in
    ap gap_from c.from_residual-in_err-read_numeral.ensures ∙ gap-a _ _ _ _ _ e (sym c.in_err-read_numeral.was ∙ c.read_numeral.ensures)

pub returns-in_err-read_numeral-2 : goal.returns-in_err-read_numeral-2
unfolding gap_from
returns-in_err-read_numeral-2 c =
    let e = words-four c.in_ok-a.ensures.0 c.in_ok-b.ensures.0 c.in_ok-least.ensures.0 c.in_ok-greatest.ensures.0 (sym c.has_word.ensures ∙ c.if-has_word.false) in
    ap gap_from c.from_residual-in_err-read_numeral-2.ensures ∙ gap-b _ _ _ _ _ e (sym c.in_err-read_numeral-2.was ∙ c.read_numeral-2.ensures)

pub returns-in_err-read_signed : goal.returns-in_err-read_signed
unfolding gap_from
returns-in_err-read_signed c =
    let e = words-four c.in_ok-a.ensures.0 c.in_ok-b.ensures.0 c.in_ok-least.ensures.0 c.in_ok-greatest.ensures.0 (sym c.has_word.ensures ∙ c.if-has_word.false) in
    ap gap_from c.from_residual-in_err-read_signed.ensures ∙ gap-least _ _ _ _ _ e (sym c.in_err-read_signed.was ∙ c.read_signed.ensures)

pub returns-in_err-read_signed-2 : goal.returns-in_err-read_signed-2
unfolding gap_from
returns-in_err-read_signed-2 c =
    let e = words-four c.in_ok-a.ensures.0 c.in_ok-b.ensures.0 c.in_ok-least.ensures.0 c.in_ok-greatest.ensures.0 (sym c.has_word.ensures ∙ c.if-has_word.false) in
    ap gap_from c.from_residual-in_err-read_signed-2.ensures ∙ gap-greatest _ _ _ _ _ e (sym c.in_err-read_signed-2.was ∙ c.read_signed-2.ensures)

pub returns : goal.returns
returns c =
    let e = words-four c.in_ok-a.ensures.0 c.in_ok-b.ensures.0 c.in_ok-least.ensures.0 c.in_ok-greatest.ensures.0 (sym c.has_word.ensures ∙ c.if-has_word.false) in
    let l = sym c.in_ok-read_signed.was ∙ c.read_signed.ensures in
    let g = sym c.in_ok-read_signed-2.was ∙ c.read_signed-2.ensures in
    gap-said _ _ _ _ _ e _ (sym c.in_ok-read_numeral.was ∙ c.read_numeral.ensures) (sym c.in_ok-read_numeral-2.was ∙ c.read_numeral-2.ensures)
    _ _ l g (signed-kept _ _ l) (signed-kept _ _ g)
