-- The other form is handed over whole.
use Rattle.std.proofs.Common.{◌≡◌, ap, ◌∙◌, subst, arith}
use Rattle.support_buffer.specs.Abstract.{written_of}
use Rattle.support_cli.specs.Streams.{output_of}
use Rattle.support_cli.specs.Answers.{Answer, status_code, hands_over, Answered}
use Rattle.abt_cli_image.specs.Answers.{moved_answer}
use Rattle.abt_cli_image.proofs.Rooms.{hands-moved}
use Rattle.abt_cli_image.proofs.write_moved.Goals as goal

pub returns : goal.returns
returns g c =
    let whole : hands_over (written_of c.move_image-length.result c.move_image-length.new.out) ≡ moved_answer c.args.given.now =
    ap hands_over c.move_image-length.ensures.out_after ∙ hands-moved c.args.given.now _ (omega arith) in
    subst
    (λ (a : Answer). Answered a (output_of g.W.Write.contents c.args.output.now) (output_of g.W.Write.contents c.hand_over.new.output) (output_of g.E.Write.contents c.args.errors.now) (output_of g.E.Write.contents c.hand_over.new.errors) (status_code c.hand_over.result))
    whole
    c.hand_over.ensures
