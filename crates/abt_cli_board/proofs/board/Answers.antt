-- What is said, and how the program ends.
use Rattle.std.proofs.Common.{true, ap, ◌∙◌, subst, map, vec_items}
use Rattle.support_cli.specs.Answers.{status_code, status_by}
use Rattle.support_cli.specs.declared.status.Status.{Status}
use Rattle.abt_board_text.specs.Options.{no_options, line_from, ReadsAs}
use Rattle.abt_board_text.specs.declared.options.Options.{Options}
use Rattle.abt_cli_board.specs.Answers.{board_answer}
use Rattle.abt_cli_board.proofs.Ending.{gives}
use Rattle.abt_cli_board.proofs.Files.{line-said}
use Rattle.abt_cli_board.proofs.board.Goals as goal

pub returns : goal.returns
unfolding board_answer
returns g c =
    let words = map vec_items c.args.words.now in
    let line = c.read_options-line in
    gives _ _ _ _ _ c.end.ensures.said (board_answer words) _ c.follow-said.result
    (line-said (line_from (no_options true) words) line.result
    (subst (λ (o : Options). ReadsAs (line_from o words) line.result) c.no_options.ensures line.ensures)
    (g.S.Store.held c.args.files.now) c.follow-said.result _ _ c.follow-said.ensures)
    (c.end.ensures.status ∙ ap (λ (s : Status). status_by c.follow-said.new.output.failed (status_code s)) c.unwrap_or.ensures)
