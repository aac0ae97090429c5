-- The place in the line's ring.
use Rattle.std.proofs.Common.{◌≡◌, ◌++◌, OnOk, subst, rules}
use Rattle.model_agent.specs.Message.{Message as Message'}
use Rattle.abt_shape.proofs.Numbering.{ends}
use Rattle.abt_record.specs.Abstract.{place_of}
use Rattle.abt_board_drawing.specs.Text.{message_text}
use Rattle.abt_board_drawing.proofs.Waiting.{waiting-read}
use Rattle.abt_board_drawing.proofs.lines.put_waiting.Goals as goal

pub returns : goal.returns
unfolding place_of
returns c =
    subst (λ (m : Message'). OnOk c.put_message.result (c.put_message.new.out.items ≡ c.args.out.now.items ++ message_text m))
    (waiting-read c.args.r.now c.args.from c.args.to c.args.k _ _ _ _ (search rules) (ends _ _ c.requires.0).from_low c.digit-head.ensures.0 c.channel_at.ensures.0 c.place_at.ensures)
    c.put_message.ensures
