-- The rule, the problem, and the agents, upward. What an invariant says is what was found to fit.
use Rattle.std.proofs.Common.{◌≡◌, refl, sym, ◌∙◌, arith, length, rules}
use Rattle.abt_record.specs.Abstract.{problem_of, network_of}
use Rattle.abt_record.proofs.Agents.{agent-at}
use Rattle.abt_record.proofs.Whole.{lengths, no-rule, no-range, agent-unfit, agent-passed, agents-passed}
use Rattle.abt_record.proofs.Network.framed.Goals as goal
use Rattle.abt_record.proofs.Network.framed.Goals.{then-not-is_rule-via-then-not-is_rule, then-not-is_rule-via-else-not-is_rule+then-not-in_range}

pub returns-then-not-is_rule : goal.returns-then-not-is_rule
unfolding problem_of
returns-then-not-is_rule c =
    let r = c.args.self.now in
    elim c.then-not-is_rule.branch [
      | then-not-is_rule-via-then-not-is_rule w ↦ no-rule r (sym c.is_rule.ensures ∙ w.if-not-is_rule.true)
      | then-not-is_rule-via-else-not-is_rule+then-not-in_range w ↦
          no-range r (sym (w.in_range.ensures (problem_of r) (lengths r (search rules) (search rules)) refl refl refl) ∙ w.if-not-in_range.true)
    ]

pub loop-k-init : goal.loop-k-init
unfolding problem_of
loop-k-init c =
    let r = c.args.self.now in
    record {
      ranged = sym (c.in_range.ensures (problem_of r) (lengths r (search rules) (search rules)) refl refl refl) ∙ c.if-not-in_range.false;
      ruled = sym c.is_rule.ensures ∙ c.if-not-is_rule.false;
      agents = λ x l u. absurd (omega arith);
    }

pub returns-then-not-agent_passes : goal.returns-then-not-agent_passes
unfolding network_of problem_of
returns-then-not-agent_passes c =
    let r = c.args.self.now in
    let a = c.loop-k.invariant in
    let n : length r.agents ≡ 12 = search rules in
    agent-unfit r c.loop-k.k a (omega arith)
    (sym (c.agent_passes.ensures (network_of r) (c.frame-frame.ensures a.ranged).agents refl (agent-at r c.loop-k.k _ n (omega arith))) ∙ c.if-not-agent_passes.true)

pub loop-k-preserved : goal.loop-k-preserved
unfolding network_of problem_of
loop-k-preserved c =
    let r = c.args.self.now in
    let a = c.loop-k.invariant in
    let n : length r.agents ≡ 12 = search rules in
    agent-passed r c.loop-k.k a
    (sym (c.agent_passes.ensures (network_of r) (c.frame-frame.ensures a.ranged).agents refl (agent-at r c.loop-k.k _ n (omega arith))) ∙ c.if-not-agent_passes.false)

pub returns : goal.returns
returns c =
    let a = c.loop-k.invariant in
    record { lines = agents-passed c.args.self.now c.loop-k.k a (omega arith); framing = c.frame-frame.ensures a.ranged }
