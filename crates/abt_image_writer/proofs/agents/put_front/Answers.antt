-- `put_front` puts its five parts one behind the other.
use Rattle.abt_agent.specs.Abstract.{assigned}
use Rattle.support_buffer.proofs.Puts.{puts_then}
use Rattle.abt_image_writer.proofs.agents.put_front.Goals as goal

pub returns : goal.returns
unfolding assigned
returns c = puts_then (puts_then (puts_then (puts_then c.put.ensures c.put-2.ensures) c.put_mask.ensures) c.put_mask-2.ensures) c.put_slots.ensures
