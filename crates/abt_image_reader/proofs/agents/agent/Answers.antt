-- `agent` is an agent's record of 170 bytes, part by part.
use Rattle.model_image.specs.Bytes.{stretch}
use Rattle.abt_image_reader.proofs.Records.{agent-in}
use Rattle.abt_image_reader.proofs.agents.agent.Goals as goal

pub returns : goal.returns
unfolding stretch
returns c =
    agent-in c.args.s.now 0 _ c.byte.ensures c.byte-2.ensures c.two_bytes.ensures c.two_bytes-2.ensures (rw c.tail.ensures at c.slots.ensures.0)
    c.nogood_mask.ensures c.reasons.ensures.1 (rw c.tail-2.ensures at c.counts.ensures) (rw c.tail-3.ensures at c.counts-2.ensures)
