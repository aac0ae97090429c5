-- By what the words in front of the calls come to.
use Rattle.std.proofs.Common.{subst, map, vec_items, false}
use Rattle.abt_board_text.specs.Options.{no_options, line_from, ReadsAs}
use Rattle.abt_board_text.specs.declared.options.Options.{Options}
use Rattle.abt_cli_image.specs.Answers.{write_answer}
use Rattle.abt_cli_image.proofs.Giving.{line-gives}
use Rattle.abt_cli_image.proofs.write_image.Goals as goal

pub returns : goal.returns
unfolding write_answer
returns g c =
    let words = map vec_items c.args.words.now in
    let line = c.read_options-line in
    line-gives (line_from (no_options false) words) line.result (g.S.Store.held c.args.files.now)
    (subst (λ (o : Options). ReadsAs (line_from o words) line.result) c.no_options.ensures line.ensures)
    c.follow.ensures
