-- `put_counts` puts three counts of eight bytes, one behind the other.
use Rattle.abt_agent.specs.Abstract.{count_of}
use Rattle.model_image.specs.Image.{count_bytes}
use Rattle.support_buffer.proofs.Puts.{puts_then}
use Rattle.abt_image_writer.proofs.Words.{puts-eight}
use Rattle.abt_image_writer.proofs.agents.put_counts.Goals as goal

pub returns : goal.returns
unfolding count_bytes count_of
returns c =
    puts_then
    (puts_then (puts-eight _ c.put_all.ensures c.to_le_bytes.ensures) (puts-eight _ c.put_all-2.ensures c.to_le_bytes-2.ensures))
    (puts-eight _ c.put_all-3.ensures c.to_le_bytes-3.ensures)
