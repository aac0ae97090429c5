-- `message` is the message from a place on, by its sort.
use Rattle.std.proofs.Common.{ap, ◌∙◌, arith, ℕ}
use Rattle.model_agent.specs.Message.{Back}
use Rattle.abt_packed.specs.Packed.{assignment}
use Rattle.abt_agent.specs.Abstract.{unpacked, message_of}
use Rattle.abt_image_reader.proofs.Messages.{is-info, is-back, is-link, in_three}
use Rattle.abt_image_reader.proofs.lines.message.Goals as goal

pub returns-in-1 : goal.returns-in-1
unfolding message_of
returns-in-1 c = is-info c.args.s.now _ _ c.byte.ensures c.byte-value.ensures c.in-1.is

pub returns-in-2 : goal.returns-in-2
unfolding message_of unpacked
returns-in-2 c =
    ap (λ (x : ℕ). Back (assignment x) c.byte-value.result) (in_three c.slots-digits.result)
    ∙ is-back c.args.s.now _ _ c.byte.ensures c.byte-value.ensures c.in-2.is _ (rw c.tail.ensures at c.slots-digits.ensures.0)

pub returns-in_default : goal.returns-in_default
unfolding message_of
returns-in_default c = is-link c.args.s.now _ _ c.byte.ensures c.byte-value.ensures (omega arith) (omega arith)
