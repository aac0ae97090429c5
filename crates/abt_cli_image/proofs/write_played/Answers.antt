-- The image of what the calls leave is handed over whole.
use Rattle.std.proofs.Common.{◌≡◌, ap, ◌∙◌, subst, arith, map}
use Rattle.support_buffer.specs.Abstract.{written_of}
use Rattle.abt_record.specs.Abstract.{network_of}
use Rattle.model_dispatch.specs.Dispatch.{Dispatcher}
use Rattle.abt_dispatch.specs.Abstract.{dispatcher_of}
use Rattle.theorems_dispatch.specs.Steps.{left_by_steps}
use Rattle.abt_calls.specs.Abstract.{step_of}
use Rattle.abt_image_mover.specs.Form.{form_named}
use Rattle.support_cli.specs.Streams.{output_of}
use Rattle.support_cli.specs.Answers.{Answer, status_code, hands_over, Answered}
use Rattle.abt_cli_image.specs.Answers.{stored, played}
use Rattle.abt_cli_image.proofs.Rooms.{hands-stored}
use Rattle.abt_cli_image.proofs.write_played.Goals as goal

pub returns : goal.returns
unfolding played dispatcher_of
returns g c =
    let form = form_named c.args.form in
    let d = dispatcher_of c.args.d in
    let left = left_by_steps (map step_of c.args.calls.now) d in
    let whole : hands_over (written_of c.store_as-length.result c.store_as-length.new.out) ≡ stored form left.network =
    ap hands_over c.store_as-length.ensures.out_after
    ∙ hands-stored form (network_of c.play.result.dispatcher.network) _ (omega arith)
    ∙ ap (λ (x : Dispatcher). stored form x.network) c.play.ensures.left in
    subst
    (λ (a : Answer). Answered a (output_of g.W.Write.contents c.args.output.now) (output_of g.W.Write.contents c.hand_over.new.output) (output_of g.E.Write.contents c.args.errors.now) (output_of g.E.Write.contents c.hand_over.new.errors) (status_code c.hand_over.result))
    whole
    c.hand_over.ensures
