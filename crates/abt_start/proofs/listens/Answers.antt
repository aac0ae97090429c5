-- The mask of the linked agents above, from the agent next to i down.
use Rattle.std.proofs.Common.{◌∙◌, arith}
use mathlib.Core.Path.{fun_ext}
use Rattle.abt_start.proofs.Words.{table-linked, not-linked, is-linked, word-from}
use Rattle.abt_start.proofs.Masks.{mask-begins, mask-goes, mask-ends}
use Rattle.abt_start.proofs.listens.Goals as goal

pub loop-k-init : goal.loop-k-init
loop-k-init c = (omega arith, mask-begins _ _ (omega arith) (λ k h. not-linked _ _ _ (λ l b u. omega arith)))

pub loop-k-preserved : goal.loop-k-preserved
loop-k-preserved c =
    let h = c.loop-k in (
      omega arith,
      rw c.from.ensures
          (mask-goes _ _ _ _ h.invariant.1 c.loop-k-test.true
          (is-linked _ _ _ _ (omega arith) (omega arith) (omega arith) (word-from h.k c.args.i _ c.words_before-words.ensures.0))),
    )

pub returns : goal.returns
returns c =
    λ p e.
    mask-ends _ _ _ c.loop-k.invariant.1 (omega arith) (not-linked _ _ _ (λ l b u. omega arith))
    ∙ fun_ext (λ k. table-linked p _ e k _)
