-- Receiver by receiver: a scanner has no line to itself.
use Rattle.std.proofs.Common.{ℕ, List, ◌++◌, sym, ap, ◌∙◌, append-nil, arith}
use Rattle.model_sheet.specs.Problem.{max_agents}
use Rattle.abt_record.specs.Abstract.{network_of}
use Rattle.abt_record.specs.declared.Network.{Network}
use Rattle.abt_shape.proofs.Numbering.{to-channel}
use Rattle.abt_board_drawing.specs.Text.{line_line, lines_of}
use Rattle.abt_board_drawing.proofs.Saying.{none-said, one-said, all-said}
use Rattle.abt_board_drawing.proofs.Walks.{from-next, from-none}
use Rattle.abt_board_drawing.proofs.Waiting.{own-line}
use Rattle.abt_board_drawing.proofs.lines.put_channels_of.Goals.{then-from-to+in_ok-put_channel, else-from-to}
use Rattle.abt_board_drawing.proofs.lines.put_channels_of.Goals as goal

abbrev line_to : Network → ℕ → ℕ → List ℕ
line_to r i j = line_line i j ((network_of r).channel i j)

pub loop-to-init : goal.loop-to-init
unfolding lines_of max_agents
loop-to-init c = none-said

pub put_channel-requires : goal.put_channel-requires
put_channel-requires c = to-channel _ _ (omega arith) (omega arith) (omega arith) (omega arith) c.if-from-to.true

pub loop-to-preserved : goal.loop-to-preserved
loop-to-preserved c =
    one-said (line_to c.args.r.now c.args.from c.loop-to.to) c.loop-to.invariant (from-next 12 c.loop-to.to (line_to c.args.r.now c.args.from) (omega arith))
    (elim c.if-from-to.branch [
      | then-from-to+in_ok-put_channel w ↦ rw w.out-is w.in_ok-put_channel.ensures
      | else-from-to w ↦
          rw w.out-is
          (sym (append-nil c.loop-to.out.items)
          ∙ ap (λ (t : List ℕ). c.loop-to.out.items ++ t) (sym (own-line c.args.r.now c.args.from c.loop-to.to w.if-from-to.false)))
    ])

pub returns : goal.returns
returns c = all-said c.loop-to.invariant (from-none 12 c.loop-to.to (line_to c.args.r.now c.args.from) (omega arith))
