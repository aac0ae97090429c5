-- `put_mask` puts the mask of agents 1 to 12 of a set.
-- The number below 4096 that has these bits is that mask.
use Rattle.std.proofs.Common.{refl}
use Rattle.support_buffer.proofs.Puts.{puts-as}
use Rattle.abt_image_writer.proofs.Words.{puts-two}
use Rattle.abt_image_writer.proofs.Records.{mask-is-put}
use Rattle.abt_image_writer.proofs.agents.put_mask.Goals as goal

pub returns : goal.returns
returns c = puts-as refl (mask-is-put c.args.set) (puts-two _ c.put_all.ensures c.to_le_bytes.ensures)
