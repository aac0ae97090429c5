-- As many as there are places, each from 1 to 8. Assumes nothing.
use Rattle.std.proofs.Common.{sym, ap, ◌∙◌, arith, ℕ, set, Some}
use Rattle.model_base.proofs.Tests.{within-true}
use Rattle.sheet_text_statements.proofs.Sayings.{domains-still, domains-many, domains-wrong, domains-one, counts-in, domains-in}
use Rattle.sheet_text_statements.proofs.Slots.domains_with.Goals as goal
use Rattle.sheet_text_statements.proofs.Slots.domains_with.Goals.{then-self-ge12-via-then-self-ge12, then-self-ge12-via-else-self-ge12+then-not-within}

pub returns-in_err-domains : goal.returns-in_err-domains
returns-in_err-domains c = λ counts e. c.from_residual.ensures ∙ domains-still counts _ (sym c.in_err-domains.was ∙ domains-in c.args.self counts e)

pub returns-then-self-ge12 : goal.returns-then-self-ge12
returns-then-self-ge12 c =
    λ counts e.
    elim c.then-self-ge12.branch [
      | then-self-ge12-via-then-self-ge12 w ↦ domains-many counts _ (omega (arith, w.if-self-ge12.true, counts-in c.args.self counts e))
      | then-self-ge12-via-else-self-ge12+then-not-within w ↦ domains-wrong counts _ (sym w.within.ensures ∙ w.if-not-within.true)
    ]

pub overflow_cast-domains : goal.overflow_cast-domains
overflow_cast-domains c = omega (arith, within-true 8 c.args.value (sym c.within.ensures ∙ c.if-not-within.false))

pub returns : goal.returns
returns c =
    λ counts e.
    let a = counts-in c.args.self counts e in
    ap (λ (k : ℕ). Some (set c.in_ok-domains.domains k c.args.value)) a
    ∙ domains-one counts _ _ (sym c.in_ok-domains.was ∙ domains-in c.args.self counts e) (omega (arith, a)) (sym c.within.ensures ∙ c.if-not-within.false)
