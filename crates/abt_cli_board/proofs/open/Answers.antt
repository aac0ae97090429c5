-- By whether the file can be read.
use Rattle.std.proofs.Common.{refl, rules}
use Rattle.support_cli.specs.Answers.{prints}
use Rattle.abt_cli_board.specs.Answers.{unread}
use Rattle.abt_cli_board.proofs.Files.{opened-none, opened-some}
use Rattle.abt_cli_board.proofs.open.Goals as goal

pub returns-in-Some : goal.returns-in-Some
returns-in-Some g c =
    opened-some c.args.line.now.options c.args.line.now.word.now _ c.begin_and_play.result _ _ _ _ c.in-Some.n c.in-Some.ensures (search rules) c.begin_and_play.ensures

pub returns-in-None : goal.returns-in-None
unfolding unread prints
returns-in-None g c =
    opened-none c.args.line.now.options c.args.line.now.word.now _ _ _ _ _ _ c.in-None.ensures
    (c.say_unread.ensures.0, λ good. c.say_unread.ensures.1, refl)
