-- `counts` are three counts of eight bytes.
use Rattle.model_image.specs.Bytes.{stretch}
use Rattle.abt_image_reader.proofs.Records.{counts-in}
use Rattle.abt_image_reader.proofs.agents.counts.Goals as goal

pub returns : goal.returns
unfolding stretch
returns c = counts-in c.args.s.now 0 _ _ _ c.eight_bytes.ensures c.eight_bytes-2.ensures c.eight_bytes-3.ensures
