-- `put_line` puts the messages of one line.
-- Those behind so many are left to put.
use Rattle.std.proofs.Common.{◌≡◌, ◌+◌, arith, sym, ◌∙◌, length, rules}
use Rattle.abt_record.specs.Abstract.{network_of}
use Rattle.model_image.specs.Reading.{message_length}
use Rattle.model_image.proofs.Lengths.{chain_length}
use Rattle.abt_image_writer.specs.Lines.{line_at}
use Rattle.abt_image_writer.proofs.Numbered.{line-length}
use Rattle.support_buffer.proofs.Puts.{all_left, left_as, less-left, none_left}
use Rattle.abt_image_writer.proofs.Chains.{all-on-it, none-on-it, next-message}
use Rattle.abt_image_writer.proofs.messages.put_line.Goals as goal

pub loop-ahead-init : goal.loop-ahead-init
unfolding message_length
loop-ahead-init c =
    let a = c.args in
    let on_it = line_at (network_of a.r.now) a.line in
    record { at = omega arith; left = left_as (all-on-it a.before on_it) (all_left _ _ (chain_length a.before on_it) c.requires.room) }

pub put_message-requires : goal.put_message-requires
put_message-requires c =
    let a = c.args in
    let l = c.loop-ahead in
    omega (arith, l.invariant.at, l.invariant.left.kept, line-length a.r.now a.line c.requires.inside.0, c.on_line-count.ensures.0, c.requires.room)

pub loop-ahead-preserved : goal.loop-ahead-preserved
loop-ahead-preserved c =
    let a = c.args in
    let l = c.loop-ahead in
    let full : length a.r.now.places ≡ 1056 = search rules in
    let next =
    next-message a.r.now a.line a.before l.ahead _ _ _ _ _ c.requires.inside.0 full c.on_line-count.ensures.0 c.loop-ahead-test.true c.on_line-head.ensures.0 c.place_at.ensures
    c.first_of.ensures in
    record { at = omega (arith, l.invariant.at, c.put_message.ensures.behind); left = less-left (left_as next l.invariant.left) c.put_message.ensures }

pub returns : goal.returns
unfolding message_length
returns c =
    let a = c.args in
    let l = c.loop-ahead in
    let on_it = line_at (network_of a.r.now) a.line in
    let long : length on_it ≡ c.on_line-count.result = line-length a.r.now a.line c.requires.inside.0 ∙ sym c.on_line-count.ensures.0 in
    record {
      count = (sym long, omega arith);
      put = none_left (left_as (none-on-it (a.before + l.ahead) l.ahead on_it (omega (arith, long))) l.invariant.left) (chain_length a.before on_it);
    }
