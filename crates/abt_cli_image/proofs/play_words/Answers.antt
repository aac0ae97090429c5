-- By what the words say, and by whether memory is enough for it.
use Rattle.std.proofs.Common.{◌≡◌, true, false, sym, ap, ◌∙◌, map, vec_items}
use Rattle.abt_cli_image.specs.Calls.{Understood, NoCall, calls_from}
use Rattle.abt_cli_image.specs.Answers.{played}
use Rattle.abt_cli_image.proofs.Giving.{ends-by}
use Rattle.abt_cli_image.proofs.Starting.{plays-so, forgets-so}
use Rattle.abt_cli_image.proofs.play_words.Goals as goal

pub returns-in_default : goal.returns-in_default
returns-in_default g c = ends-by _ false _ (forgets-so _ _ _) c.tell.ensures

pub returns-in-Ok-read : goal.returns-in-Ok-read
returns-in-Ok-read g c =
    let known : calls_from (map vec_items c.args.words.now) ≡ Understood c.in-Ok-read.calls.items = rw c.in-Ok-read.is at c.in-Ok.ensures in
    ends-by _ true _ (plays-so _ _ _ _ (known ∙ ap Understood (sym c.deref.ensures.value))) c.write_played.ensures

pub returns-in-Err : goal.returns-in-Err
unfolding played
returns-in-Err g c =
    let known : calls_from (map vec_items c.args.words.now) ≡ NoCall c.in-Err.word.now = rw c.in-Err.is at c.in-Ok.ensures in
    ends-by _ true _ (plays-so _ _ _ _ known) c.complain.ensures
