-- `put_agents` puts the records of agents 1 to n: so many of them are put.
use Rattle.std.proofs.Common.{◌*◌}
use Rattle.abt_record.specs.Abstract.{network_of}
use Rattle.model_image.specs.Image.{agent_bytes}
use Rattle.support_buffer.proofs.Puts.{Gathered}
use Rattle.abt_image_writer.proofs.agents.put_agents.Given as goal

abbrev pub invariant-loop-a : goal.invariant-loop-a
invariant-loop-a l = Gathered l.initial.out (170 * l.a-index) (λ i. agent_bytes ((network_of l.r).agents i)) 1 l.a-index l.out
