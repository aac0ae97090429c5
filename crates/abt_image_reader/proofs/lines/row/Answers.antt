-- `row` has as digit j how many messages wait for receiver j: the digits of the receivers before j are there.
use Rattle.std.proofs.Common.{sym, arith}
use Rattle.abt_shape.proofs.Numbering.{ends, to-channel}
use Rattle.abt_image_reader.proofs.Rows.{none-rowed, one-rowed, none_more}
use Rattle.abt_image_reader.proofs.lines.row.Goals as goal
use Rattle.abt_image_reader.proofs.lines.row.Goals.{else-j-i, then-j-i}

pub loop-j-init : goal.loop-j-init
loop-j-init c = none-rowed c.args.lines.now c.args.i _

pub channel_at-requires : goal.channel_at-requires
channel_at-requires c = to-channel _ _ c.requires.0 c.requires.1 c.loop-j.auto.j c.loop-j-test.true (λ e. c.if-j-i.true (sym e))

pub loop-j-preserved : goal.loop-j-preserved
loop-j-preserved c =
    let l = c.loop-j in
    elim c.if-j-i.branch [
      | then-j-i u ↦ one-rowed c.args.lines.now c.args.i l.word l.j _ l.invariant _ _ u.channel_at.ensures.0 u.with_digit-word.ensures u.word-is
      | else-j-i u ↦ none_more c.args.lines.now c.args.i l.word l.j _ l.invariant u.if-j-i.false u.word-is
    ]

pub returns : goal.returns
returns c = λ j e. c.loop-j.invariant j e (omega (arith, (ends _ j e).to_high))
