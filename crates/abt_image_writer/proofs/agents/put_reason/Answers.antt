-- `put_reason` puts a reason: 1 and its left side, or zeros.
use Rattle.std.proofs.Common.{refl}
use Rattle.model_sheet.specs.Problem.{max_agents}
use Rattle.model_image.specs.Image.{reason_bytes}
use Rattle.support_buffer.proofs.Puts.{puts_then, puts-as}
use Rattle.abt_image_writer.proofs.agents.put_reason.Goals as goal

pub returns-in-Some : goal.returns-in-Some
unfolding reason_bytes
returns-in-Some c = puts-as refl (rw c.in-Some.is refl) (puts_then c.put.ensures c.put_slots.ensures)

pub returns-in-None : goal.returns-in-None
unfolding reason_bytes max_agents
returns-in-None c = puts-as refl (rw c.in-None.is refl) c.put_all.ensures
