-- Number by number, until one is none or no word is left. Assumes nothing.
use Rattle.std.proofs.Common.{sym, ◌∙◌}
use Rattle.sheet_text_statements.proofs.Sayings.{slots_none, slotted-none, no-count, slotted-one, slotted-all}
use Rattle.sheet_text_statements.proofs.slots_in.Goals as goal

pub loop-word-init : goal.loop-word-init
loop-word-init c = slotted-none _ _ slots_none

pub returns-in_err-read_numeral : goal.returns-in_err-read_numeral
returns-in_err-read_numeral c =
    c.from_residual.ensures
    ∙ no-count _ _ _ _ _ c.loop-word.invariant c.in-Some.ensures.0 (sym c.in_err-read_numeral.was ∙ c.read_numeral.ensures)

pub loop-word-preserved : goal.loop-word-preserved
loop-word-preserved c =
    slotted-one _ _ _ _ _ c.loop-word.invariant c.in-Some.ensures.0 _ (sym c.in_ok-read_numeral.was ∙ c.read_numeral.ensures) c.in-Some.ensures.1
    _ c.with_count-slots.ensures

pub returns : goal.returns
returns c = slotted-all _ _ _ c.loop-word.invariant c.in_default.ensures
