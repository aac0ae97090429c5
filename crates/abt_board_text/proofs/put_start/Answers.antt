-- What is printed of what has begun.
use Rattle.std.proofs.Common.{ℕ, List, ◌++◌, ap, ◌∙◌}
use Rattle.abt_board_text.proofs.Texts.{begun-is}
use Rattle.abt_board_text.proofs.put_start.Goals as goal

pub returns-clause-text : goal.returns-clause-text
returns-clause-text c =
    c.in_ok-put_begun.ensures
    ∙ ap (λ (t : List ℕ). c.args.out.now.items ++ t) (begun-is c.args.rule c.args.sheet.now c.begin-begun.result c.begin-begun.ensures)
