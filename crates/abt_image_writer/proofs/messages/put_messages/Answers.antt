-- `put_messages` puts the messages of all lines, line by line.
-- Those of the lines from `line` on are left to put, behind `before` others.
use Rattle.std.proofs.Common.{arith, refl}
use Rattle.abt_record.specs.Abstract.{network_of}
use Rattle.support_buffer.proofs.Puts.{all_left, left_as, less-left, none_left}
use Rattle.abt_image_writer.proofs.Chains.{all-messages, first-chain, no-messages, chain-room}
use Rattle.abt_image_writer.proofs.messages.put_messages.Goals as goal

pub loop-line-init : goal.loop-line-init
loop-line-init c = record { few = omega arith; left = left_as (all-messages (network_of c.args.r.now)) (all_left _ _ refl c.requires) }

pub put_line-before-requires-clause-room : goal.put_line-before-requires-clause-room
put_line-before-requires-clause-room c =
    let l = c.loop-line in
    omega (arith, l.invariant.left.room, chain-room (network_of c.args.r.now) l.line l.before (omega arith))

pub loop-line-preserved : goal.loop-line-preserved
loop-line-preserved c =
    let l = c.loop-line in
    let w = network_of c.args.r.now in
    let next = c.put_line-before.ensures in
    record {
      few = omega (arith, next.count.1);
      left = rw next.count.0 (less-left (left_as (first-chain w l.line l.before (omega arith)) l.invariant.left) next.put);
    }

pub returns : goal.returns
returns c =
    let l = c.loop-line in
    let w = network_of c.args.r.now in
    none_left (left_as (no-messages w l.line l.before (omega arith)) l.invariant.left) refl
