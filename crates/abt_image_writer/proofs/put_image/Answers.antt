-- `put_image` puts the parts of the image one behind the other.
use Rattle.std.proofs.Common.{rules}
use Rattle.abt_record.specs.Abstract.{problem_of, network_of}
use Rattle.model_image.specs.Image.{image}
use Rattle.support_buffer.proofs.Puts.{puts_then}
use Rattle.abt_image_writer.proofs.put_image.Goals as goal

pub returns : goal.returns
unfolding image network_of problem_of
returns c =
    let all = puts_then (puts_then (puts_then (puts_then c.put_header.ensures c.put_bans.ensures) c.put_agents.ensures) c.put_heads.ensures) c.put_messages.ensures in
    search (rules, all.put, all.same)
