-- `put_agents` puts the records of agents 1 to n: so many of them are put.
use Rattle.std.proofs.Common.{◌≡◌, length, take, refl, arith}
use Rattle.support_buffer.proofs.Puts.{none_gathered, one_more}
use Rattle.abt_image_writer.proofs.Records.{agent-here}
use Rattle.abt_image_writer.proofs.agents.put_agents.Goals as goal

pub loop-a-init : goal.loop-a-init
loop-a-init c = none_gathered _ _ 0 1 0 (omega arith) refl refl

pub loop-a-preserved : goal.loop-a-preserved
loop-a-preserved c =
    let r = c.args.r.now in
    let long : length (take r.count r.agents) ≡ r.count = omega arith in
    one_more c.loop-a.invariant _ _ c.put_agent.ensures (agent-here r c.loop-a.a-index _ long (omega arith)) refl (omega arith)
