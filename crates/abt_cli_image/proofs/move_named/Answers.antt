-- By the name, and by what stands behind it.
use Rattle.std.proofs.Common.{sym, ap, ◌∙◌}
use Rattle.abt_cli_image.specs.Answers.{no_file, strange_option}
use Rattle.abt_cli_image.proofs.Giving.{gives-blind, gives-so}
use Rattle.abt_cli_image.proofs.Words.{no-name, option-named, surplus, alone, name-is}
use Rattle.abt_cli_image.proofs.move_named.Goals as goal

pub returns-in_default : goal.returns-in_default
unfolding no_file
returns-in_default g c = gives-blind _ _ _ (no-name _ c.in_default.ensures) c.complain.ensures

pub returns-then-is_option : goal.returns-then-is_option
unfolding strange_option
returns-then-is_option g c =
    gives-blind _ _ _ (option-named _ _ _ c.in-Some.ensures (sym c.is_option.ensures ∙ c.if-is_option.true)) c.complain-then-is_option.ensures

pub returns-in-Some-first_word : goal.returns-in-Some-first_word
returns-in-Some-first_word g c =
    let plain = sym c.is_option.ensures ∙ c.if-is_option.false in
    gives-blind _ _ _ (surplus _ _ _ c.in-Some.ensures _ _ plain c.in-Some-first_word.ensures) c.complain-in-Some-first_word.ensures

pub returns : goal.returns
returns g c =
    let plain = sym c.is_option.ensures ∙ c.if-is_option.false in
    gives-so _ _ _ _ (alone _ _ _ c.in-Some.ensures plain c.in_default-first_word.ensures)
    (ap (g.S.Store.held c.args.files.now) (name-is _ _ _ c.in-Some.ensures))
    c.open_image.ensures
