-- `put_reasons` puts the reasons of own values 1 to 8: so many of them are put.
use Rattle.std.proofs.Common.{◌*◌, None}
use Rattle.model_base.specs.Finite.{from_one}
use Rattle.abt_choosing.specs.Choosing.{nogood_at}
use Rattle.model_image.specs.Image.{reason_bytes}
use Rattle.support_buffer.proofs.Puts.{Gathered}
use Rattle.abt_image_writer.proofs.agents.put_reasons.Given as goal

abbrev pub invariant-loop-v : goal.invariant-loop-v
invariant-loop-v l = Gathered l.initial.out (13 * l.v) (λ v. reason_bytes (from_one None (nogood_at l.nogood_mask l.nogoods) v)) 1 l.v l.out
