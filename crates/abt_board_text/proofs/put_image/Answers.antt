-- What is printed of what has begun.
use Rattle.std.proofs.Common.{ℕ, List, ◌++◌, ap, ◌∙◌}
use Rattle.abt_board_text.proofs.Texts.{loaded-is}
use Rattle.abt_board_text.proofs.put_image.Goals as goal

pub returns-clause-text : goal.returns-clause-text
returns-clause-text c =
    c.in_ok-put_loaded.ensures
    ∙ ap (λ (t : List ℕ). c.args.out.now.items ++ t) (loaded-is c.args.image.now c.begin_image-begun.result c.begin_image-begun.ensures)
