-- By the command.
use Rattle.std.proofs.Common.{sym, ap, ◌∙◌, Some}
use Rattle.abt_cli_image.specs.Answers.{no_command}
use Rattle.abt_cli_image.proofs.Giving.{gives-blind, gives-so}
use Rattle.abt_cli_image.proofs.Words.{no-command, unread-command, writes, writes-file, moves, moves-file}
use Rattle.abt_cli_image.proofs.image.Goals as goal

pub returns-in_default : goal.returns-in_default
unfolding no_command
returns-in_default g c = gives-blind _ _ _ (no-command _ c.in_default.ensures) c.complain.ensures

pub returns-in_default-command_of : goal.returns-in_default-command_of
returns-in_default-command_of g c =
    gives-blind _ _ _ (unread-command _ _ _ c.in-Some.ensures (sym c.command_of.ensures ∙ c.in_default-command_of.is)) c.complain-in_default-command_of.ensures

pub returns-in-Write : goal.returns-in-Write
returns-in-Write g c =
    let known = sym c.command_of.ensures ∙ c.in-Some-command_of.is ∙ ap Some c.in-Write.is in
    gives-so _ _ _ _ (writes _ _ _ c.in-Some.ensures known)
    (ap (g.S.Store.held c.args.files.now) (writes-file _ _ _ c.in-Some.ensures known))
    c.write_image.ensures

pub returns-in-Move : goal.returns-in-Move
returns-in-Move g c =
    let known = sym c.command_of.ensures ∙ c.in-Some-command_of.is ∙ ap Some c.in-Move.is in
    gives-so _ _ _ _ (moves _ _ _ c.in-Some.ensures known)
    (ap (g.S.Store.held c.args.files.now) (moves-file _ _ _ c.in-Some.ensures known))
    c.move_named.ensures
