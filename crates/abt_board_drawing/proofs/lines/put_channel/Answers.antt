-- A line that holds nothing is not drawn, and one that holds something is its head and the others.
use Rattle.std.proofs.Common.{◌≡◌, ℕ, List, ◌++◌, OnOk, sym, ap, subst, ◌∙◌, append-nil, arith}
use Rattle.model_agent.specs.Message.{Message as Message'}
use Rattle.abt_shape.proofs.Numbering.{ends}
use Rattle.abt_board_drawing.specs.Text.{line_line}
use Rattle.abt_board_drawing.proofs.Waiting.{channel-none, channel-some}
use Rattle.abt_board_drawing.proofs.lines.put_channel.Goals as goal

pub returns-then-count-eq0 : goal.returns-then-count-eq0
returns-then-count-eq0 c =
    sym (append-nil c.args.out.now.items)
    ∙ ap (λ (t : List ℕ). c.args.out.now.items ++ t)
    (sym (channel-none c.args.r.now c.args.from c.args.to c.digit-count.result c.requires (ends _ _ c.requires).from_low c.digit-count.ensures.0 c.if-count-eq0.true))

pub returns-else-count-eq0 : goal.returns-else-count-eq0
returns-else-count-eq0 c =
    subst (λ (ms : List Message'). OnOk c.put_line.result (c.put_line.new.out.items ≡ c.args.out.now.items ++ line_line c.args.from c.args.to ms))
    (sym (channel-some c.args.r.now c.args.from c.args.to c.digit-count.result c.requires (ends _ _ c.requires).from_low c.digit-count.ensures.0 (omega (arith, c.if-count-eq0.false))))
    c.put_line.ensures
