-- `put_agent` puts the four parts of a record one behind the other.
use Rattle.abt_agent.specs.Abstract.{agent_of, counts_of}
use Rattle.model_image.specs.Image.{agent_bytes}
use Rattle.support_buffer.proofs.Puts.{puts_then}
use Rattle.abt_image_writer.proofs.agents.put_agent.Goals as goal

pub returns : goal.returns
unfolding agent_bytes agent_of counts_of
returns c = puts_then (puts_then (puts_then c.put_front.ensures c.put_reasons.ensures) c.put_counts.ensures) c.put_counts-2.ensures
