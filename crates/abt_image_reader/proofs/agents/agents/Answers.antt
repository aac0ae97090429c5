-- `agents` reads agents 1 to n: the first i are read.
use Rattle.std.proofs.Common.{ap, ◌∙◌, arith, length, length-set}
use lib.ListN.{length-replicate}
use Rattle.abt_record.specs.declared.Network.{Network}
use Rattle.abt_record.specs.Empty.{empty_agent, empty_record}
use Rattle.model_image.specs.Bytes.{stretch}
use Rattle.abt_image_reader.proofs.Filled.{none_read, one-read}
use Rattle.abt_image_reader.proofs.agents.agents.Goals as goal

pub loop-i-init : goal.loop-i-init
unfolding empty_record
loop-i-init c =
    record {
      long = ap (λ (r : Network). length r.agents) c.empty.ensures.0 ∙ length-replicate 12 empty_agent;
      read = none_read c.args.s.now c.empty.result c.empty.ensures.0;
    }

pub loop-i-preserved : goal.loop-i-preserved
unfolding stretch
loop-i-preserved c =
    let l = c.loop-i in
    record {
      long = length-set l.agents l.i _ ∙ l.invariant.long;
      read = one-read c.args.s.now l.i l.agents _ (omega arith) l.invariant.read (rw c.tail.ensures at c.agent.ensures);
    }
