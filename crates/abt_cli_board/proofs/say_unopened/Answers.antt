-- The text, in one piece.
use Rattle.std.proofs.Common.{ℕ, List, ◌++◌, refl, ap, ◌∙◌, subst}
use Rattle.support_cli.specs.Streams.{output_of, Puts}
use Rattle.support_cli.specs.Answers.{prints}
use Rattle.abt_board_text.specs.Text.{unopened_text}
use Rattle.abt_cli_board.proofs.say_unopened.Goals as goal

pub returns : goal.returns
unfolding prints
returns g c =
    let text = unopened_text c.args.o c.args.word.now in (
      subst (λ (t : List ℕ). Puts t (output_of g.W.Write.contents c.args.output.now) (output_of g.W.Write.contents c.put.new.self))
          (c.deref.ensures.value ∙ c.in_ok-put_unopened.ensures ∙ ap (λ (t : List ℕ). t ++ text) c.new-text.ensures.items)
          c.put.ensures,
      λ good. c.unopened_status.ensures,
      refl,
    )
