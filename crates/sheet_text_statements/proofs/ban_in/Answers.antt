-- Two places and no third word. Assumes nothing.
use Rattle.std.proofs.Common.{refl, sym, ap, ◌∙◌, length, arith, ltb-true}
use Rattle.sheet_text_statements.specs.Saying.{ban_from}
use Rattle.sheet_text_statements.proofs.Sayings.{words-two, ban-count, ban-first, ban-second, ban-said}
use Rattle.sheet_text_statements.proofs.ban_in.Goals as goal

pub returns-in_err-first : goal.returns-in_err-first
unfolding ban_from
returns-in_err-first c =
    ap ban_from c.from_residual.ensures ∙ ban-count _ (λ k. omega (arith, k, ap length c.in_err-first.ensures))

pub returns-in_err-second : goal.returns-in_err-second
unfolding ban_from
returns-in_err-second c =
    ap ban_from c.from_residual-in_err-second.ensures
    ∙ ban-count _ (λ k. omega (arith, k, ap length c.in_ok-first.ensures.0, ap length c.in_err-second.ensures))

pub returns-then-has_word : goal.returns-then-has_word
unfolding ban_from
returns-then-has_word c =
    let m = ltb-true 0 _ (sym c.has_word.ensures ∙ c.if-has_word.true) in
    ban-count _ (λ k. omega (arith, k, m, ap length c.in_ok-first.ensures.0, ap length c.in_ok-second.ensures.0))

pub returns-in_err-first-2 : goal.returns-in_err-first-2
unfolding ban_from
returns-in_err-first-2 c =
    let e = words-two c.in_ok-first.ensures.0 c.in_ok-second.ensures.0 (sym c.has_word.ensures ∙ c.if-has_word.false) in
    ap ban_from c.from_residual-in_err-first-2.ensures ∙ ban-first _ _ _ e (sym c.in_err-first-2.was ∙ c.read_place.ensures)

pub returns-in_err-second-2 : goal.returns-in_err-second-2
unfolding ban_from
returns-in_err-second-2 c =
    let e = words-two c.in_ok-first.ensures.0 c.in_ok-second.ensures.0 (sym c.has_word.ensures ∙ c.if-has_word.false) in
    ap ban_from c.from_residual-in_err-second-2.ensures ∙ ban-second _ _ _ e (sym c.in_err-second-2.was ∙ c.read_place-2.ensures)

pub returns : goal.returns
returns c =
    let e = words-two c.in_ok-first.ensures.0 c.in_ok-second.ensures.0 (sym c.has_word.ensures ∙ c.if-has_word.false) in
    ban-said _ _ _ e _ _ (sym c.in_ok-first-2.was ∙ c.read_place.ensures) (sym c.in_ok-second-2.was ∙ c.read_place-2.ensures)
    _ refl refl refl refl
