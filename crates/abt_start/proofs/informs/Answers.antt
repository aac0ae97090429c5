-- The mask of the linked agents below, from agent n down to the one next to i.
use Rattle.std.proofs.Common.{◌≡◌, sym, ◌∙◌, ◌+◌, ◌-◌, arith}
use mathlib.Core.Path.{fun_ext}
use Rattle.abt_shape.proofs.Pairs.{word-place}
use Rattle.abt_start.proofs.Words.{not-linked, is-linked, none-beyond, as-far, all-linked}
use Rattle.abt_start.proofs.Masks.{mask-begins, mask-goes, mask-moved}
use Rattle.abt_start.proofs.informs.Goals as goal

pub loop-k-init : goal.loop-k-init
loop-k-init c = (c.requires.1, mask-begins _ _ c.requires.2 (λ k h. none-beyond _ _ _ k h), omega arith)

pub loop-k-preserved : goal.loop-k-preserved
loop-k-preserved c =
    let h = c.loop-k in
    let d : h.k - 1 + 1 ≡ h.k = omega arith in
    let p = word-place c.args.i h.k _ (rw d at c.words_before.ensures.0) (omega arith) (omega arith) (rw d at c.words_before.ensures.1) in (
      omega arith,
      rw c.from.ensures
          (mask-goes _ _ _ _ h.invariant.1 (omega arith)
          (is-linked _ _ _ _ (omega arith) (omega arith) h.invariant.1.few p.0 ∙ sym (as-far _ _ _ h.k h.invariant.2))),
      omega (arith, h.invariant.2),
    )

pub returns : goal.returns
returns c =
    λ p e none.
    let h = c.loop-k in
    let i = c.args.i in
    let d : h.k ≡ i = omega arith in
    mask-moved _ h.mask i (rw d at h.invariant.1) (λ k u. as-far _ _ i k (omega (arith, c.requires.1)) ∙ not-linked _ _ _ (λ l b t. omega arith))
    ∙ fun_ext (all-linked p _ _ i e none)
