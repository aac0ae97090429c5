-- The two parts are what stands before the first colon and behind it. Assumes nothing.
use Rattle.std.proofs.Common.{sym, ◌∙◌}
use Rattle.model_text.specs.Words.{is_colon}
use Rattle.sheet_text_statements.proofs.Searching.{position-some, position-none}
use Rattle.sheet_text_statements.proofs.Places.{no-colon, around-colon, no-agent, no-value, a-place}
use Rattle.sheet_text_statements.proofs.numbers.read_place.Goals as goal

pub returns-in_err-colon : goal.returns-in_err-colon
unfolding is_colon
returns-in_err-colon c =
    c.from_residual.ensures ∙ no-colon c.args.s.now (position-none is_colon _ (sym c.in_err-colon.was ∙ c.find.ensures))

pub returns-in_err-agent : goal.returns-in_err-agent
unfolding is_colon
returns-in_err-agent c =
    let s = c.args.s.now in
    let p = around-colon s _ (position-some is_colon s _ (sym c.in_ok-colon.was ∙ c.find.ensures)).0 in
    c.from_residual-in_err-agent.ensures ∙ no-agent s _ _ p.0 p.1 (sym c.in_err-agent.was ∙ c.read_numeral.ensures)

pub returns-in_err-value : goal.returns-in_err-value
unfolding is_colon
returns-in_err-value c =
    let s = c.args.s.now in
    let p = around-colon s _ (position-some is_colon s _ (sym c.in_ok-colon.was ∙ c.find.ensures)).0 in
    c.from_residual-in_err-value.ensures ∙ no-value s _ _ p.0 p.1 (sym c.in_err-value.was ∙ c.read_numeral-2.ensures)

pub returns : goal.returns
unfolding is_colon
returns c =
    let s = c.args.s.now in
    let p = around-colon s _ (position-some is_colon s _ (sym c.in_ok-colon.was ∙ c.find.ensures)).0 in
    a-place s _ _ p.0 p.1 _ (sym c.in_ok-agent.was ∙ c.read_numeral.ensures) (sym c.in_ok-value.was ∙ c.read_numeral-2.ensures)
