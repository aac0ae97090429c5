-- By whether the file can be read.
use Rattle.std.proofs.Common.{true, refl, rules}
use Rattle.abt_cli_image.specs.Answers.{unread, moved_by}
use Rattle.abt_cli_image.proofs.Giving.{ends-by, gives-none, gives-some}
use Rattle.abt_cli_image.proofs.Opening.{moved-by-cut}
use Rattle.abt_cli_image.proofs.open_image.Goals as goal

pub returns-in-Some : goal.returns-in-Some
unfolding moved_by
returns-in-Some g c =
    gives-some _ _ c.in-Some.n _ (λ enough bytes. moved-by-cut c.args.name.now bytes) c.in-Some.ensures (search rules)
    (ends-by _ true _ refl c.write_moved.ensures)

pub returns-in-None : goal.returns-in-None
unfolding unread moved_by
returns-in-None g c = gives-none _ _ _ _ (λ enough. refl) c.in-None.ensures c.complain.ensures
