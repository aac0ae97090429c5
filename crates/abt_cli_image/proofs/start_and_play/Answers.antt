-- By whether the start gives a rail.
use Rattle.std.proofs.Common.{ℕ, true, sym, ap, ◌∙◌, subst, map, vec_items}
use Rattle.model_network.specs.Network.{start_sheet}
use Rattle.abt_board_text.specs.Options.{rule_of}
use Rattle.abt_board_text.specs.Calling.{begun_number, begun_of, BeginsAs}
use Rattle.abt_cli_image.specs.Answers.{form_by}
use Rattle.abt_cli_image.proofs.Giving.{ends-by, ends-so}
use Rattle.abt_cli_image.proofs.Starting.{starts-so, refuses-so}
use Rattle.abt_cli_image.proofs.start_and_play.Goals as goal

pub returns-in-Ok : goal.returns-in-Ok
returns-in-Ok g c =
    let o = c.args.o in
    let begun = subst (λ (k : ℕ). BeginsAs k c.args.sheet.now c.begin.result) c.rule_of.ensures c.begin.ensures in
    ends-so _ _
    (starts-so (form_by o) (map vec_items c.args.words.now) (start_sheet (rule_of o) c.args.sheet.now) _ _
    (sym (ap begun_number c.in-Ok.is) ∙ begun.numbered)
    c.form_of.ensures
    (sym (ap begun_of c.in-Ok.is) ∙ begun.started))
    c.play_words.ensures

pub returns-in-Err : goal.returns-in-Err
returns-in-Err g c =
    let o = c.args.o in
    let begun = subst (λ (k : ℕ). BeginsAs k c.args.sheet.now c.begin.result) c.rule_of.ensures c.begin.ensures in
    ends-by _ true _
    (refuses-so (form_by o) (map vec_items c.args.words.now) (start_sheet (rule_of o) c.args.sheet.now) c.in-Err.rejection
    (sym (ap begun_number c.in-Err.is) ∙ begun.numbered) true)
    c.refuse.ensures
