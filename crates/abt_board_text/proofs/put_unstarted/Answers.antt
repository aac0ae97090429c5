-- By the refusal.
use Rattle.std.proofs.Common.{◌≡◌, ℕ, List, ◌++◌, OnOk, sym, ap, subst, ◌∙◌, codes}
use Rattle.model_base.specs.Decimal.{line_of}
use Rattle.abt_board_text.proofs.Texts.{unstarted-rule, unstarted-sheet}
use Rattle.abt_board_text.proofs.put_unstarted.Goals as goal

pub returns-in-BadRule : goal.returns-in-BadRule
returns-in-BadRule c =
    subst (λ (t : List ℕ). OnOk c.put_bad_rule.result (c.put_bad_rule.new.out.items ≡ c.args.out.now.items ++ t))
    (sym (unstarted-rule c.args.rejection c.in-BadRule.is))
    c.put_bad_rule.ensures

pub returns-in_default : goal.returns-in_default
returns-in_default c =
    subst (λ (t : List ℕ). OnOk c.put_number_line.result (c.put_number_line.new.out.items ≡ c.args.out.now.items ++ t))
    (ap (line_of (codes "sheet refused ")) (c.from.ensures ∙ c.number.ensures) ∙ sym (unstarted-sheet c.args.rejection c.in_default.not-BadRule))
    c.put_number_line.ensures
