-- The refusal's number is the table's.
use Rattle.std.proofs.Common.{◌≡◌, ℕ, ◌++◌, OnOk, subst, ◌∙◌, codes}
use Rattle.model_network.specs.Network.{bad_rule}
use Rattle.model_base.specs.Decimal.{line_of}
use Rattle.abt_board_text.specs.Text.{rule_refused}
use Rattle.abt_board_text.proofs.options.put_bad_rule.Goals as goal

pub returns : goal.returns
unfolding rule_refused bad_rule
returns c =
    subst (λ (n : ℕ). OnOk c.put_number_line.result (c.put_number_line.new.out.items ≡ c.args.out.now.items ++ line_of (codes "rule refused ") n))
    (c.from.ensures ∙ c.number.ensures)
    c.put_number_line.ensures
