-- By whether the file can be read.
use Rattle.std.proofs.Common.{refl, rules}
use Rattle.abt_cli_image.specs.Answers.{unread, opened_by}
use Rattle.abt_cli_image.proofs.Giving.{gives-none, gives-some}
use Rattle.abt_cli_image.proofs.Opening.{opened-cut}
use Rattle.abt_cli_image.proofs.open_sheet.Goals as goal

pub returns-in-Some : goal.returns-in-Some
unfolding opened_by
returns-in-Some g c =
    gives-some _ _ c.in-Some.n _ (opened-cut c.args.line.now.options c.args.line.now.word.now _) c.in-Some.ensures (search rules) c.start_and_play.ensures

pub returns-in-None : goal.returns-in-None
unfolding unread opened_by
returns-in-None g c = gives-none _ _ _ _ (λ enough. refl) c.in-None.ensures c.complain.ensures
