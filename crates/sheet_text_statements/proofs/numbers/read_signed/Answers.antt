-- Behind a minus or without one. Assumes nothing.
use Rattle.std.proofs.Common.{◌≡◌, sym, ap, ◌∙◌, false, arith, length, ltb-true, Some}
use Rattle.model_text.specs.Words.{has_minus}
use Rattle.sheet_text_statements.proofs.Places.{none-first, minus-first, other-first, minus-away, minus_none, no-size, with-minus, with_none, plus-kept, minus-kept}
use Rattle.sheet_text_statements.proofs.numbers.read_signed.Goals.{in_default-via-then-s-lt1, in_default-via-else-s-lt1+in_default-1}
use Rattle.sheet_text_statements.proofs.numbers.read_signed.Goals as goal

pub returns-in_err-read_numeral-in-45 : goal.returns-in_err-read_numeral-in-45
returns-in_err-read_numeral-in-45 c =
    let m = minus-first c.args.s.now (omega arith) in
    c.from_residual.ensures
    ∙ no-size c.args.s.now _ (minus-away c.args.s.now m) (sym c.in_err-read_numeral-in-45.was ∙ c.read_numeral.ensures)

pub returns-in_err-read_numeral-in_default : goal.returns-in_err-read_numeral-in_default
returns-in_err-read_numeral-in_default c =
    let m : has_minus c.args.s.now ≡ false = elim c.in_default.branch [ in_default-via-then-s-lt1 w ↦ none-first c.args.s.now (omega (arith, ltb-true (length c.args.s.now) 1 w.if-s-lt1-1.true)) | in_default-via-else-s-lt1+in_default-1 w ↦ other-first c.args.s.now (λ e. omega arith) ] in
    c.from_residual-in_err-read_numeral-in_default.ensures
    ∙ no-size c.args.s.now _ (minus_none c.args.s.now m) (sym c.in_err-read_numeral-in_default.was ∙ c.read_numeral-in_default.ensures)

pub returns-in_ok-read_numeral-in-45 : goal.returns-in_ok-read_numeral-in-45
returns-in_ok-read_numeral-in-45 c =
    let m = minus-first c.args.s.now (omega arith) in
    ap Some (minus-kept c.from.result _ c.from.ensures c.from.type_inv)
    ∙ with-minus c.args.s.now _ (minus-away c.args.s.now m) m _ (sym c.in_ok-read_numeral-in-45.was ∙ c.read_numeral.ensures)

pub returns-in_ok-read_numeral-in_default : goal.returns-in_ok-read_numeral-in_default
returns-in_ok-read_numeral-in_default c =
    let m : has_minus c.args.s.now ≡ false = elim c.in_default.branch [ in_default-via-then-s-lt1 w ↦ none-first c.args.s.now (omega (arith, ltb-true (length c.args.s.now) 1 w.if-s-lt1-1.true)) | in_default-via-else-s-lt1+in_default-1 w ↦ other-first c.args.s.now (λ e. omega arith) ] in
    ap Some (plus-kept c.from-in_default.result _ c.from-in_default.ensures c.from-in_default.type_inv)
    ∙ with_none c.args.s.now _ (minus_none c.args.s.now m) m _ (sym c.in_ok-read_numeral-in_default.was ∙ c.read_numeral-in_default.ensures)
