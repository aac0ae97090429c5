-- From the first agent up. The invariant: those before the k-th pass.
use Rattle.std.proofs.Common.{sym, ◌∙◌, arith}
use Rattle.model_sheet.specs.Problem.{max_agents, domain_in_range}
use Rattle.abt_shape.proofs.Each.{all_to-more, all_to-misses}
use Rattle.abt_shape.proofs.Ranges.{domain-next}
use Rattle.abt_shape.proofs.range.domains_in_range.Goals as goal

pub returns-then-not-domain_in_range : goal.returns-then-not-domain_in_range
unfolding max_agents
returns-then-not-domain_in_range c =
    λ p e f.
    sym (all_to-misses 12 (domain_in_range p) c.loop-k.k (omega arith)
    (sym (c.domain_in_range.ensures p e (domain-next p c.args.domains.now c.loop-k.k f)) ∙ c.if-not-domain_in_range.true))

pub loop-k-preserved : goal.loop-k-preserved
loop-k-preserved c =
    λ p e f.
    all_to-more c.loop-k.k (domain_in_range p) (c.loop-k.invariant p e f)
    (sym (c.domain_in_range.ensures p e (domain-next p c.args.domains.now c.loop-k.k f)) ∙ c.if-not-domain_in_range.false)
