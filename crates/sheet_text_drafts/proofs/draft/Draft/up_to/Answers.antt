-- A byte is below 256. Assumes nothing.
use Rattle.std.proofs.Common.{ℕ, sym, ap, ◌∙◌, arith}
use Rattle.model_base.specs.Finite.{within}
use Rattle.model_base.proofs.Tests.{within-true}
use Rattle.sheet_text_drafts.proofs.draft.Draft.up_to.Goals as goal

pub returns : goal.returns
returns c =
    let e = c.within.ensures ∙ ap (λ (k : ℕ). within k c.args.v) c.from.ensures in
    (e, λ t. omega (arith, within-true c.args.n c.args.v (sym e ∙ t)))
