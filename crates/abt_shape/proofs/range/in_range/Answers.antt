-- n, then the domains, then the bans.
use Rattle.std.proofs.Common.{◌≡◌, sym, ◌∙◌, true, false, arith}
use mathlib.Core.Bool.{false≢true}
use Rattle.model_base.specs.Finite.{all_to}
use Rattle.model_sheet.specs.Problem.{max_agents, domain_in_range}
use Rattle.abt_shape.proofs.Ranges.{count-out, in-range}
use Rattle.abt_shape.proofs.range.in_range.Goals as goal
use Rattle.abt_shape.proofs.range.in_range.Goals.{then-count-le12, else-count-le12}

pub returns-then-domains_in_range : goal.returns-then-domains_in_range
returns-then-domains_in_range c =
    λ p s e f g.
    elim c.if-count-le12.branch [
      | then-count-le12 z ↦
          let t : all_to max_agents (domain_in_range p) ≡ true = sym (z.domains_in_range.ensures p e f) ∙ sym z.value-is ∙ c.if-domains_in_range.true in
          rw (in-range p c.args.count s e (omega arith) (omega arith), t) (c.bans_owned.ensures p f g)
      | else-count-le12 z ↦ absurd (false≢true (cc))
    ]

pub returns-else-domains_in_range : goal.returns-else-domains_in_range
returns-else-domains_in_range c =
    λ p s e f g.
    elim c.if-count-le12.branch [
      | then-count-le12 z ↦
          let t : all_to max_agents (domain_in_range p) ≡ false = sym (z.domains_in_range.ensures p e f) ∙ sym z.value-is ∙ c.if-domains_in_range.false in
          rw (in-range p c.args.count s e (omega arith) (omega arith), t) c.if-domains_in_range.false
      | else-count-le12 z ↦ rw (count-out p c.args.count e (λ a b. omega arith)) (cc)
    ]
