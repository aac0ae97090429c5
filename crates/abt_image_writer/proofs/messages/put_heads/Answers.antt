-- `put_heads` puts a number for each line, in order.
-- Those of the lines from `line` on are left to put, behind `before` messages.
use Rattle.std.proofs.Common.{arith}
use Rattle.abt_record.specs.Abstract.{network_of}
use Rattle.support_buffer.proofs.Puts.{all_left, left_as, less-left, none_left}
use Rattle.abt_image_writer.proofs.Words.{puts-two}
use Rattle.abt_image_writer.proofs.Chains.{all-heads, heads-long, first_head, no-heads}
use Rattle.abt_image_writer.proofs.messages.put_heads.Goals as goal

pub loop-line-init : goal.loop-line-init
loop-line-init c =
    let w = network_of c.args.r.now in
    record { few = omega arith; at = omega arith; left = left_as (all-heads w) (all_left _ _ (heads-long w) c.requires) }

pub loop-line-preserved : goal.loop-line-preserved
loop-line-preserved c =
    let l = c.loop-line in
    let held = c.on_line-count.ensures in
    record {
      few = omega (arith, held.1);
      at = omega (arith, l.invariant.at, (puts-two _ c.put_all.ensures c.to_le_bytes.ensures).behind);
      left =
          less-left
          (left_as (first_head c.args.r.now l.line l.before _ (omega arith) held.0 _ c.first_of.ensures) l.invariant.left)
          (puts-two _ c.put_all.ensures c.to_le_bytes.ensures);
    }

pub returns : goal.returns
returns c =
    let l = c.loop-line in
    let w = network_of c.args.r.now in
    none_left (left_as (no-heads w l.line l.before (omega arith)) l.invariant.left) (heads-long w)
