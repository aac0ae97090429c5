-- Value by value, the reason where there is one.
use Rattle.std.proofs.Common.{ℕ, ◌+◌, List, ◌++◌, sym, ap, ◌∙◌, append-nil, arith}
use Rattle.model_sheet.specs.Problem.{max_domain}
use Rattle.abt_agent.specs.Abstract.{assigned, agent_of}
use Rattle.abt_board_drawing.specs.Text.{reason_lines}
use Rattle.abt_board_drawing.proofs.Saying.{none-said, one-said, all-said}
use Rattle.abt_board_drawing.proofs.Walks.{above-next, above-none}
use Rattle.abt_board_drawing.proofs.Reasons.{reason_of, reason-there, reason-none}
use Rattle.abt_board_drawing.proofs.agents.put_reasons.Goals.{then-a-v-eq1+in_ok-put_reason, else-a-v-eq1}
use Rattle.abt_board_drawing.proofs.agents.put_reasons.Goals as goal

pub loop-v-init : goal.loop-v-init
loop-v-init c = none-said

pub loop-v-preserved : goal.loop-v-preserved
unfolding assigned
loop-v-preserved c =
    let a = c.args.a.now in
    let v = c.loop-v.v in
    one-said (reason_of (agent_of a) (v + 1)) c.loop-v.invariant (above-next 8 v (reason_of (agent_of a)) (omega arith))
    (elim c.if-a-v-eq1.branch [
      | then-a-v-eq1+in_ok-put_reason w ↦
          rw w.out-is (w.in_ok-put_reason.ensures ∙ ap (λ (t : List ℕ). c.loop-v.out.items ++ t) (rw w.from.ensures (sym (reason-there a v w.if-a-v-eq1.true))))
      | else-a-v-eq1 w ↦
          rw w.out-is (sym (append-nil c.loop-v.out.items) ∙ ap (λ (t : List ℕ). c.loop-v.out.items ++ t) (sym (reason-none a v w.if-a-v-eq1.false)))
    ])

pub returns : goal.returns
unfolding reason_lines max_domain
returns c = all-said c.loop-v.invariant (above-none 8 c.loop-v.v (reason_of (agent_of c.args.a.now)) (omega arith))
