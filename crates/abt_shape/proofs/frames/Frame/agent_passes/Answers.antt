-- `agent_passes` is all that is asked of an agent.
-- Beyond n or within it; within, the links first.
use Rattle.std.proofs.Common.{◌≡◌, sym, ap, ◌∙◌, true, false, ◌≤◌, ◌<◌}
use Rattle.model_agent.specs.Agent.{Agent as Agent'}
use Rattle.model_network.specs.Shape.{unused}
use Rattle.abt_agent.specs.Abstract.{agent_of}
use Rattle.abt_shape.specs.Parts.{links_in_shape}
use Rattle.abt_shape.proofs.Links.{passes-beyond, passes-within}
use Rattle.abt_shape.proofs.frames.Frame.agent_passes.Goals as goal

pub returns-then-self-i : goal.returns-then-self-i
returns-then-self-i c =
    λ w f b e.
    let past : w.problem.count < c.args.i = rw f.count-is c.if-self-i.true in
    c.unused.ensures ∙ ap unused (sym e) ∙ sym (passes-beyond w c.args.i past)

pub returns-then-links_in_shape : goal.returns-then-links_in_shape
unfolding agent_of
returns-then-links_in_shape c =
    λ w f b e.
    let own : c.args.i ≤ w.problem.count = rw f.count-is c.if-self-i.false in
    let links : links_in_shape w c.args.i ≡ true = sym (c.links_in_shape.ensures w f b (ap (λ (x : Agent'). x.listens) e)) ∙ c.if-links_in_shape.true in
    c.holds_in_shape.ensures w f e ∙ sym (passes-within w c.args.i own ∙ rw links)

pub returns-else-links_in_shape : goal.returns-else-links_in_shape
unfolding agent_of
returns-else-links_in_shape c =
    λ w f b e.
    let own : c.args.i ≤ w.problem.count = rw f.count-is c.if-self-i.false in
    let links : links_in_shape w c.args.i ≡ false = sym (c.links_in_shape.ensures w f b (ap (λ (x : Agent'). x.listens) e)) ∙ c.if-links_in_shape.false in
    c.if-links_in_shape.false ∙ sym (passes-within w c.args.i own ∙ rw links)
