-- By whether a file is opened.
use Rattle.std.proofs.Common.{refl, sym, ◌∙◌}
use Rattle.abt_cli_image.proofs.Giving.{gives-blind, gives-so}
use Rattle.abt_cli_image.proofs.Opening.{opens-so, stays-so}
use Rattle.abt_cli_image.proofs.follow.Goals as goal

pub returns-then-opens : goal.returns-then-opens
returns-then-opens g c =
    let l = c.args.line.now in
    gives-so _ _ _ _ (opens-so l.options l.word.now _ (sym c.opens.ensures ∙ c.if-opens.true)) refl c.open_sheet.ensures

pub returns-else-opens : goal.returns-else-opens
returns-else-opens g c =
    let l = c.args.line.now in
    gives-blind _ _ _ (stays-so l.options l.word.now _ (sym c.opens.ensures ∙ c.if-opens.false)) c.say_unopened.ensures
