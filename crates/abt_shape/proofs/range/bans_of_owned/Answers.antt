-- `bans_of_owned` is whether the ban words of one higher agent are between owned values.
-- From agent j - 1 down. The invariant: what is asked of all words is asked of what is laid over each other and of those left.
use Rattle.std.proofs.Common.{ℕ, suc, ◌+◌, ◌-◌, ◌≡◌, sym, ap, ◌∙◌, List, arith, eqb, get_or}
use mathlib.Core.Bool.{and-true}
use Rattle.model_base.proofs.Peeling.{all_to-over}
use Rattle.model_sheet.specs.Problem.{domain, word_at, word_owned}
use Rattle.abt_shape.proofs.Overlaid.{overlaid}
use Rattle.abt_shape.proofs.range.bans_of_owned.Invariants.{word}
use Rattle.abt_shape.proofs.range.bans_of_owned.Goals as goal

pub loop-k-preserved : goal.loop-k-preserved
unfolding word_at
loop-k-preserved c =
    let l = c.loop-k in
    λ p e o b.
    let lower : suc (l.k - 1) ≡ l.k = omega arith in
    let place : c.words_before-words.result + (l.k - 1) ≡ word_at l.k c.args.j = omega (arith, c.words_before-words.ensures.0) in
    let here = ap (λ (t : List ℕ). get_or t (word_at l.k c.args.j) 0) e ∙ ap (λ (n : ℕ). get_or c.args.bans.now n 0) (sym place) in
    l.invariant p e o b
    ∙ overlaid l.over c.unowned-over.result l.k (word p c.args.j) c.loop-k-test.true
    (ap (λ (x : ℕ). word_owned (domain p l.k) (domain p c.args.j) x) here
    ∙ c.unowned-over.ensures (domain p l.k) (domain p c.args.j) (rw lower at (b (l.k - 1) (omega arith))) o)

pub returns : goal.returns
returns c =
    let l = c.loop-k in
    λ p e o b. sym (l.invariant p e o b ∙ rw (all_to-over l.k (word p c.args.j) (omega arith)) (and-true (eqb l.over 0)))
