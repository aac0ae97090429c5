use Rattle.std.proofs.Common.{sym, ◌∙◌}
use Rattle.support_cli.proofs.Behaving.{behaves_blind, behaves_so}
use Rattle.sheet_cli_turn.proofs.Words.{none_given, unread, surplus, taken_whole, answered}
use Rattle.sheet_cli_turn.proofs.turn.Goals as goal

pub returns-in_default : goal.returns-in_default
returns-in_default g c = let b = none_given _ c.in_default.ensures in behaves_blind _ _ _ b.takes b.says c.complain.ensures

pub returns-in_default-command_of : goal.returns-in_default-command_of
returns-in_default-command_of g c =
    let b = unread _ _ _ c.in-Some.ensures (sym c.command_of.ensures ∙ c.in_default-command_of.is) in
    behaves_blind _ _ _ b.takes b.says c.complain-in_default-command_of.ensures

pub returns-in-Some-first_word : goal.returns-in-Some-first_word
returns-in-Some-first_word g c =
    let known = sym c.command_of.ensures ∙ c.in-Some-command_of.is in
    let b = surplus _ _ _ c.in-Some.ensures _ known _ _ c.in-Some-first_word.ensures in
    behaves_blind _ _ _ b.takes b.says c.complain-in-Some-first_word.ensures

pub returns : goal.returns
returns g c =
    let known = sym c.command_of.ensures ∙ c.in-Some-command_of.is in
    let alone = c.in_default-first_word.ensures in
    behaves_so _ _ _ _ (taken_whole _ _ _ c.in-Some.ensures _ known alone) (answered _ _ _ c.in-Some.ensures _ known alone) c.obey.ensures
