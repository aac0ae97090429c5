use Rattle.std.proofs.Common.{Some, sym, ap, ◌∙◌}
use Rattle.support_cli.proofs.Behaving.{behaves_blind, behaves_so}
use Rattle.sheet_cli_scribe.proofs.Words.{none_given, unread, surplus, taken_whole, answered}
use Rattle.sheet_cli_scribe.proofs.scribe.Goals as goal

pub returns-in_default : goal.returns-in_default
returns-in_default g c = let b = none_given _ c.in_default.ensures in behaves_blind _ _ _ b.takes b.says c.complain.ensures

pub returns-in_default-command_of : goal.returns-in_default-command_of
returns-in_default-command_of g c =
    let b = unread _ _ _ c.in-Some.ensures (sym c.command_of.ensures ∙ c.in_default-command_of.is) in
    behaves_blind _ _ _ b.takes b.says c.complain-in_default-command_of.ensures

pub returns-in-Some-first_word : goal.returns-in-Some-first_word
returns-in-Some-first_word g c =
    let known = sym c.command_of.ensures ∙ c.in-Some-command_of.is in
    let b = surplus _ _ _ c.in-Some.ensures _ known _ _ c.in-Some-first_word.ensures in
    behaves_blind _ _ _ b.takes b.says c.complain-in-Some-first_word.ensures

pub returns-in-Sheet : goal.returns-in-Sheet
returns-in-Sheet g c =
    let known = sym c.command_of.ensures ∙ c.in-Some-command_of.is ∙ ap Some c.in-Sheet.is in
    let alone = c.in_default-first_word.ensures in
    behaves_so _ _ _ _ (taken_whole _ _ _ c.in-Some.ensures _ known alone) (answered _ _ _ c.in-Some.ensures _ known alone) c.sheet_of_input.ensures

pub returns-in-Text : goal.returns-in-Text
returns-in-Text g c =
    let known = sym c.command_of.ensures ∙ c.in-Some-command_of.is ∙ ap Some c.in-Text.is in
    let alone = c.in_default-first_word.ensures in
    behaves_so _ _ _ _ (taken_whole _ _ _ c.in-Some.ensures _ known alone) (answered _ _ _ c.in-Some.ensures _ known alone) c.text_of_input.ensures
