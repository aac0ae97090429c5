-- The line, where the set is not empty, and nothing where it is.
use Rattle.std.proofs.Common.{◌≡◌, ℕ, List, ◌++◌, OnOk, sym, ap, subst, ◌∙◌, append-nil, arith}
use Rattle.abt_agent.specs.Abstract.{agent_of}
use Rattle.abt_board_drawing.specs.Text.{informs_line, informs_text}
use Rattle.abt_board_drawing.proofs.Sets.{line-left-out, line-there}
use Rattle.abt_board_drawing.proofs.agents.put_informs.Goals as goal

pub returns-then-a-eq0 : goal.returns-then-a-eq0
unfolding agent_of informs_line
returns-then-a-eq0 c =
    sym (append-nil c.args.out.now.items)
    ∙ ap (λ (t : List ℕ). c.args.out.now.items ++ t) (sym (line-left-out c.args.a.now.informs (informs_text (agent_of c.args.a.now)) c.if-a-eq0.true))

pub returns-else-a-eq0 : goal.returns-else-a-eq0
unfolding agent_of informs_line
returns-else-a-eq0 c =
    subst (λ (t : List ℕ). OnOk c.put_informs_text.result (c.put_informs_text.new.out.items ≡ c.args.out.now.items ++ t))
    (sym (line-there c.args.a.now.informs (informs_text (agent_of c.args.a.now)) c.if-a-eq0.false (omega arith)))
    c.put_informs_text.ensures
